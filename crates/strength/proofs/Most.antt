-- R is at most 12,000,000 N for every plane within the ranges: crude, and what the use needs from above.
use Rattle.std.proofs.Common.{ℕ, ◌-◌, ◌*◌, ◌≤◌, mul-le-mul_right, add-sub_of_le, mul-le-mul, le_of_mul-le-mul_right, arith}
use Rattle.strength.specs.declared.plane.Timber.{Timber}
use Rattle.strength.specs.declared.plane.Plane.{Plane}
use Rattle.strength.specs.Fraction.{Fraction, ◌over◌, whole, ◌⊗◌}
use Rattle.strength.specs.Shear.{bearing, f1, bearing_force, AtMostR, MemberWithin, PlaneWithin}
use Rattle.strength.specs.Working.{bearing_num, bearing_den}
use Rattle.strength.proofs.Bearings.{bearing_is, side_force_positive}

-- a bearing strength is at most 1,000 N/mm²
module _ (d : ℕ) (m : Timber) (w : MemberWithin m) where
  divisor_low : 990 * m.total ≤ bearing_den m
  divisor_low =
      omega (arith, mul-le-mul_right (m.total - m.along) w.k90_low, add-sub_of_le w.angle)

  bearing_most : (bearing d m).num ≤ 1000 * (bearing d m).den
  bearing_most =
      let e-high : 100 - d ≤ 100 = omega arith in
      let n-high : bearing_num m ≤ 1100 * m.total = mul-le-mul_right m.total w.density_high in
      let D = bearing_den m in
      let large : 82 * (100 - d) * bearing_num m ≤ 1000 * (100 * D) = omega (arith, mul-le-mul e-high n-high, divisor_low) in
      le_of_mul-le-mul_right {k = 100 * D} (omega (arith, bearing_is d m, mul-le-mul_right (bearing d m).den large))
      (omega (arith, divisor_low, w.force))

-- K = f d t is at most 12,000,000 N
force_most : (d t : ℕ) (a : Fraction) → d ≤ 30 → t ≤ 4000 → a.num ≤ 1000 * a.den
    → (a ⊗ whole d ⊗ (t over 10)).num ≤ 12000000 * (a ⊗ whole d ⊗ (t over 10)).den
force_most d t a hd ht ma = omega (arith, mul-le-mul (mul-le-mul hd ht) ma)

pub at_most_meganewtons : (p : Plane) → PlaneWithin p → (c : ℕ) → AtMostR p (c over 1000) → c ≤ 12000000000
at_most_meganewtons p w c low =
    let K = bearing_force p.diameter p.member1 in
    let most : K.num ≤ 12000000 * K.den =
    force_most p.diameter p.member1.thickness (f1 p) w.dowel.diameter_high w.member1.thickness_high
    (bearing_most p.diameter p.member1 w.member1) in
    le_of_mul-le-mul_right {k = K.den} (omega (arith, low.second.within, most)) (side_force_positive p w).den
