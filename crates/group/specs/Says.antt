-- What the definition of a row says: where it is 01's of before 02, A3, and what one dowel more does to a share.
use Rattle.std.specs.Prelude.{ℕ, ◌+◌, ◌≤◌, ◌<◌, ◌≡◌, Bool, List, ◌⊎◌, eqb, ℤ}
use Rattle.spacing.specs.Spacing.{distance}
use Rattle.group.specs.Rows.{IsRow, OfRow, EveryRow}

-- 01: 'A row in a member is all dowels with the same across coordinate'
pub record SameAcross (b : List ℤ) (count : ℕ) (in_row : ℕ → Bool) : Type 0 where
  pub dowel : ℕ
  pub within : dowel < count
  pub has : (j : ℕ) → j < count → in_row j ≡ eqb (distance b dowel j) 0

-- all across coordinates are equal or at least d apart
abbrev pub InLine : List ℤ → ℕ → ℕ → Type 0
InLine b count reach = (i j : ℕ) → i < count → j < count → (distance b i j ≡ 0) ⊎ (reach ≤ distance b i j)

-- there the rows are those
pub record SameRows (b : List ℤ) (count reach : ℕ) (in_row : ℕ → Bool) : Type 0 where
  pub there : IsRow b count reach in_row → SameAcross b count in_row
  pub back : SameAcross b count in_row → IsRow b count reach in_row

-- one dowel more, listed last: a share that is above in no row with it is above in no row without it
abbrev pub NeverRaised : List ℤ → List ℤ → ℕ → ℕ → ℕ → Type 0
NeverRaised a b count reach d =
    (e : ℕ) → EveryRow (OfRow a b (count + 1) reach) d e → EveryRow (OfRow a b count reach) d e
