-- 01, 'Strength of a shear plane': the formulas as printed there, over plain values, and what it is to be at most R.
use Rattle.std.specs.Prelude.{ℕ, ◌-◌, ◌^◌, ◌<◌, ◌≤◌, Bool, true, false, ◌==◌}
use Rattle.strength.specs.declared.plane.Timber.{Timber}
use Rattle.strength.specs.declared.plane.Plane.{Plane}
use Rattle.strength.specs.Fraction.{Fraction, ◌over◌, whole, ◌⊕◌, ◌⊖◌, ◌⊗◌, ◌⊘◌, ◌↑◌, ◌≼◌}

-- cos²α: the squared component along the grain over the squared force
abbrev pub cos_squared : Timber → Fraction
cos_squared m = m.along over m.total

-- sin²α = 1 - cos²α
abbrev pub sin_squared : Timber → Fraction
sin_squared m = (m.total - m.along) over m.total

-- bearing strength f in N/mm²: 0.082 (1 - 0.01 d) density / (k90 sin²α + cos²α) (000, (192) and (193))
unfoldable pub bearing : ℕ → Timber → Fraction
bearing d m =
    82 over 1000 ⊗ ((100 - d) over 100) ⊗ whole m.density
    ⊘ (m.k90 over 1000 ⊗ sin_squared m ⊕ cos_squared m)

-- f1 and f2, each member with its own α
abbrev pub f1 : Plane → Fraction
f1 p = bearing p.diameter p.member1

abbrev pub f2 : Plane → Fraction
f2 p = bearing p.diameter p.member2

-- s² = f2/(f1 + f2)
abbrev pub s_squared : Plane → Fraction
s_squared p = f2 p ⊘ (f1 p ⊕ f2 p)

-- c² = f1/(f1 + f2)
abbrev pub c_squared : Plane → Fraction
c_squared p = f1 p ⊘ (f1 p ⊕ f2 p)

-- x is at most the yield moment M = 0.3 fu d^2.6 in Nmm: x^5 ≤ (0.3 fu)^5 d^13
abbrev pub AtMostYield : ℕ → ℕ → Fraction → Type 0
AtMostYield d fu x = x ↑ 5 ≼ (3 over 10 ⊗ whole fu) ↑ 5 ⊗ whole d ↑ 13

-- K = f d t, with t in mm
abbrev pub bearing_force : ℕ → Timber → Fraction
bearing_force d m = bearing d m ⊗ whole d ⊗ (m.thickness over 10)

-- 2.3^10 (d f1 f2/(f1 + f2))^5 (0.3 fu)^5 d^13
abbrev pub first_to_the_tenth : Plane → Fraction
first_to_the_tenth p =
    (23 over 10) ↑ 10
    ⊗ (whole p.diameter ⊗ f1 p ⊗ f2 p ⊘ (f1 p ⊕ f2 p)) ↑ 5
    ⊗ (3 over 10 ⊗ whole p.steel) ↑ 5
    ⊗ whole p.diameter ↑ 13

-- x is at most the first: its tenth power is at most that of the first
abbrev pub AtMostFirst : Plane → Fraction → Type 0
AtMostFirst p x = x ↑ 10 ≼ first_to_the_tenth p

-- x ≤ K and x² ≤ (K - x)² s²
pub record Wedge (K s² x : Fraction) : Type 0 where
  pub within : x ≼ K
  pub square : x ↑ 2 ≼ (K ⊖ x) ↑ 2 ⊗ s²

-- x is at most the second, with K = f1 d t1
abbrev pub AtMostSecond : Plane → Fraction → Type 0
AtMostSecond p x = Wedge (bearing_force p.diameter p.member1) (s_squared p) x

abbrev pub OneOrTwo : Bool → Type 0 → Type 0 → Type 0
OneOrTwo true one two = one
OneOrTwo false one two = two

-- x is at most the third: likewise with K = f2 d t2 and c² for one shear plane, and plainly x ≤ f2 d t2 / 2 for two
abbrev pub AtMostThird : Plane → Fraction → Type 0
AtMostThird p x =
    OneOrTwo (p.planes == 1)
    (Wedge (bearing_force p.diameter p.member2) (c_squared p) x)
    (x ≼ bearing_force p.diameter p.member2 ⊘ whole 2)

-- x is at most the exact capacity R, the least of the three
pub record AtMostR (p : Plane) (x : Fraction) : Type 0 where
  pub first : AtMostFirst p x
  pub second : AtMostSecond p x
  pub third : AtMostThird p x

-- x is above R: its test for 'at most' fails
abbrev pub AboveR : Plane → Fraction → Type 0
AboveR p x = AtMostR p x → ⊥

-- the values for which the capacity is worked out
pub record MemberWithin (m : Timber) : Type 0 where
  pub density_low : 290 ≤ m.density
  pub density_high : m.density ≤ 1100
  pub k90_low : 990 ≤ m.k90
  pub k90_high : m.k90 ≤ 1800
  pub angle : m.along ≤ m.total
  pub force : 0 < m.total
  pub force_high : m.total < 2 ^ 62
  pub thickness_low : 200 ≤ m.thickness
  pub thickness_high : m.thickness ≤ 4000

pub record DowelWithin (d fu : ℕ) : Type 0 where
  pub diameter_low : 6 ≤ d
  pub diameter_high : d ≤ 30
  pub steel_low : 300 ≤ fu
  pub steel_high : fu ≤ 800

pub record PlaneWithin (p : Plane) : Type 0 where
  pub member1 : MemberWithin p.member1
  pub member2 : MemberWithin p.member2
  pub dowel : DowelWithin p.diameter p.steel
  pub planes_low : 1 ≤ p.planes
  pub planes_high : p.planes ≤ 2
