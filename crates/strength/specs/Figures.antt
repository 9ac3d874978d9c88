-- What the routines promise of the figures that are free within a bracket: the bracket is the claim. `is` names the figure
-- that is returned, so that equal values give equal figures.
use Rattle.std.specs.Prelude.{◌≡◌, ℕ, ◌+◌, ◌/◌}
use Rattle.strength.specs.declared.plane.Plane.{Plane}
use Rattle.strength.specs.Fraction.{◌over◌, whole}
use Rattle.strength.specs.Shear.{AtMostR, AboveR, AtMostYield}
use Rattle.strength.specs.Working.{yield_moment_of, capacity_of}

-- m thousandths of a Nmm are at most the yield moment, and m + 1 are above it
pub record YieldMoment (d fu m : ℕ) : Type 0 where
  pub low : AtMostYield d fu (m over 1000)
  pub high : AtMostYield d fu ((m + 1) over 1000) → ⊥
  pub is : m ≡ yield_moment_of d fu

-- c thousandths of a newton bracket R: c ≤ 1000 R < c + 2
pub record CapacityThousandths (p : Plane) (c : ℕ) : Type 0 where
  pub low : AtMostR p (c over 1000)
  pub high : AboveR p ((c + 2) over 1000)
  pub is : c ≡ capacity_of p

-- C newtons bracket R: C ≤ R < C + 2
pub record Capacity (p : Plane) (c : ℕ) : Type 0 where
  pub low : AtMostR p (whole c)
  pub high : AboveR p (whole (c + 2))
  pub is : c ≡ capacity_of p / 1000
