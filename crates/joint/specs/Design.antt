-- What the formulas of 01, 'Rows, share and use', take of a joint, and nothing else. Forces are in newtons, lengths in tenths of a
-- millimetre, d in millimetres.
use Rattle.std.specs.Prelude.{ℕ, List, [], ◌∷◌, ◌⊎◌}
use Rattle.strength.specs.Fraction.{Fraction}
use Rattle.strength.specs.declared.plane.Plane.{Plane}

-- A member that carries a part of the force: c, the size of the whole force's component along it, and 'n and a1 are those of a row of it',
-- where a row of one dowel stands with n = 1 and every a1.
pub record Carrier : Type 1 where
  pub along : ℕ
  pub row : ℕ → ℕ → Type 0

-- The shear plane; d; fx² + fy²; T, the number of shear planes that count; h, kmod in hundredths; the members.
pub record Design : Type 1 where
  pub plane : Plane
  pub diameter : ℕ
  pub squared_force : ℕ
  pub counted : Fraction
  pub kmod : ℕ
  pub members : List Carrier

-- for each member, for some member
abbrev pub Each : (Carrier → Type 0) → List Carrier → Type 0
Each P [] = Unit {0}
Each P (m ∷ ms) = P m × Each P ms

abbrev pub Some : (Carrier → Type 0) → List Carrier → Type 0
Some P [] = ⊥
Some P (m ∷ ms) = P m ⊎ Some P ms
