-- Document 01, 'Rows, share and use': 'enough', the brackets on C, E and U and the verdict, over what the formulas take of a joint, in
-- 01's order.
use Rattle.std.specs.Prelude.{ℕ, ◌+◌, ◌<◌, ◌≡◌, cond, leb}
use Rattle.strength.specs.Fraction.{Fraction, ◌over◌, whole, ◌⊕◌, ◌⊗◌, ◌⊘◌, ◌↑◌, ◌≼◌, Proper}
use Rattle.strength.specs.Shear.{AtMostR, AboveR}
use Rattle.group.specs.Rows.{NotBelow, EveryRow, SomeRowAbove}
use Rattle.joint.specs.Answer.{Verdict}
use Rattle.joint.specs.Answer.Verdict.{Fits, Overloaded}
use Rattle.joint.specs.Answer.{Report}
use Rattle.joint.specs.Design.{Carrier, Design, Each, Some}

-- above 0
pub record Above0 (u : Fraction) : Type 0 where
  pub num : 0 < u.num
  pub den : 0 < u.den

-- 130 g/(T h v)
abbrev pub plane_force : Fraction → Fraction → ℕ → Fraction → Fraction
plane_force g T h v = whole 130 ⊗ g ⊘ (T ⊗ whole h ⊗ v)

-- 130 c n/(e T h v)
abbrev pub row_force : ℕ → ℕ → Fraction → Fraction → ℕ → Fraction → Fraction
row_force c n e T h v = whole 130 ⊗ whole c ⊗ whole n ⊘ (e ⊗ T ⊗ whole h ⊗ v)

-- 'for each .. row .. and every e > 0 not below the effective number, 130 c n/(e T h v) ≤ R'
abbrev pub RowsEnough : Design → Fraction → Carrier → Type 0
RowsEnough j v m =
    (n a1 : ℕ) → m.row n a1 → (e : Fraction) → Above0 e → NotBelow j.diameter n a1 e
    → AtMostR j.plane (row_force m.along n e j.counted j.kmod v)

-- 'A fraction v > 0 is enough if, for every fraction g ≥ 0 with g² ≤ fx² + fy², 130 g/(T h v) ≤ R; and, for each member and row, ..'
pub record Enough (j : Design) (v : Fraction) : Type 0 where
  pub above0 : Above0 v
  pub total :
      (g : Fraction) → Proper g → (g ↑ 2) ≼ whole j.squared_force
      → AtMostR j.plane (plane_force g j.counted j.kmod v)
  pub rows : Each (RowsEnough j v) j.members

-- 'U/10,000 is enough, and U ≤ 10,050 v + 2 for every enough v'
abbrev pub WithinUse : ℕ → Fraction → Type 0
WithinUse U v = whole U ≼ (whole 10050 ⊗ v ⊕ whole 2)

pub record UseBracket (j : Design) (U : ℕ) : Type 0 where
  pub enough : Enough j (U over 10000)
  pub least : (v : Fraction) → Enough j v → WithinUse U v

-- 'Verdict: fits if U ≤ 10,000, else overloaded.'
abbrev pub verdict_of : ℕ → Verdict
verdict_of U = cond (leb U 10000) Fits Overloaded

-- 'C ≤ R < C + 2'
pub record CapacityBracket (j : Design) (C : ℕ) : Type 0 where
  pub low : AtMostR j.plane (whole C)
  pub high : AboveR j.plane (whole (C + 2))

-- 'in every row E n/10,000 is not above the effective number, and in some row (E + 2) n/10,000 is above it': rows of all members
pub record ShareBracket (j : Design) (E : ℕ) : Type 0 where
  pub every : Each (λ m. EveryRow m.row j.diameter E) j.members
  pub some : Some (λ m. SomeRowAbove m.row j.diameter (E + 2)) j.members

-- demand 3: the brackets on C, E and U and the verdict together
pub record Answered (j : Design) (r : Report) : Type 0 where
  pub capacity : CapacityBracket j r.capacity
  pub share : ShareBracket j r.share
  pub usage : UseBracket j r.usage
  pub verdict : r.verdict ≡ verdict_of r.usage

-- What it says: 'enough' is upward closed, met by some v and not by every v above 0; 'fits' means that every v from 1 on is enough,
-- 'overloaded' that none below 9,999/10,050 is.
pub record Means (j : Design) (r : Report) : Type 0 where
  pub upward : (u v : Fraction) → Above0 v → u ≼ v → Enough j u → Enough j v
  pub some : Enough j (r.usage over 10000)
  pub not_all : (v : Fraction) × Above0 v × (Enough j v → ⊥)
  pub fits : r.verdict ≡ Fits → (v : Fraction) → Proper v → whole 1 ≼ v → Enough j v
  pub overloaded : r.verdict ≡ Overloaded → (v : Fraction) → Enough j v → 9999 over 10050 ≼ v
