-- What a caller of the entries for C that judge sees of a joint drawn otherwise (02, A8), and of records of equal values.
use Rattle.std.specs.Prelude.{ℕ, ◌≡◌, List, length, get_or}
use Rattle.tables.specs.Table.{Table}
use Rattle.joint.specs.Layout.{values_of}
use Rattle.laws.specs.Drawn.{Passes, Redrawn}
use Rattle.negwishal.specs.Export.{Exported}

-- two slices hold the same numbers, but those of the dowels named, at places 3 and 4
pub record SameButDowels (r q : List ℕ) : Type 0 where
  pub long : length q ≡ length r
  pub at : (i : ℕ) → (i ≡ 3 → ⊥) → (i ≡ 4 → ⊥) → get_or q i 0 ≡ get_or r i 0

-- handed the same slice, by one table: the same comes back for both records, and the slice holds the same afterwards, but the dowels named
abbrev pub JudgedAlike : Table → List ℕ → List ℕ → Type 0
JudgedAlike t s u =
    Passes t s → Redrawn t s u → (entry : List ℕ) (a b : ℕ) (r q : List ℕ) → Exported t s entry a r → Exported t u entry b q
    → (b ≡ a) × SameButDowels r q

-- and all is the same where the values are equal
abbrev pub JudgedEqual : Table → List ℕ → List ℕ → Type 0
JudgedEqual t s u =
    Passes t s → Passes t u → values_of u ≡ values_of s → (entry : List ℕ) (a b : ℕ) (r q : List ℕ) → Exported t s entry a r → Exported t u entry b q
    → (b ≡ a) × (q ≡ r)
