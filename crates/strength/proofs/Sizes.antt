-- What the ranges make of the numbers worked with: none is 0, none is too large or too small.
use Rattle.std.proofs.Common.{◌≡◌, ℕ, ◌+◌, ◌-◌, ◌*◌, ◌^◌, ◌<◌, ◌≤◌, ap, le_trans, lt_of_lt_of_le, lt_of_le_of_lt, mul-le-mul_right, mul-le-mul, mul-le-mul_left, mul-pos, arith, lit<, lit≤, pow-add}
use native.Mathlib.Nat.{mul-lt-mul_of_pos_left, one-le-pow, pow-le-pow_left, pow-le-pow_right}
use Rattle.strength.specs.declared.plane.Timber.{Timber}
use Rattle.strength.specs.declared.plane.Plane.{Plane}
use Rattle.strength.specs.Roots.{FifthRoot}
use Rattle.strength.specs.Leaves.{BearingWithin}
use Rattle.strength.specs.Shear.{MemberWithin, PlaneWithin}
use Rattle.strength.specs.Working.{bearing_num, bearing_den, cross_sum, dowel_factor, force_of, yield_to_the_fifth, yield_moment_of}
use Rattle.wide.proofs.Bits.{product_bits, sum_bits}
use Rattle.wide.proofs.Powers.{mul_pow, pow_lt_back}
use Rattle.strength.proofs.Greatest.{fifth_root_of_lem}

-- numerator and denominator of a bearing fit 73 bits
module _ {density k90 along total : ℕ} (w : BearingWithin density k90 along total) where
  pub num_short : density * total < 2 ^ 73
  num_short = product_bits 11 62 (omega (arith, w.density_high)) w.force_high

  pub den_most : k90 * (total - along) + 1000 * along ≤ 1800 * total
  den_most = go (total - along) (omega (arith, w.angle))
    where
      go : (b : ℕ) → along + b ≡ total → k90 * b + 1000 * along ≤ 1800 * total
      go b e = omega (arith, mul-le-mul_right b w.k90_high)

  pub den_short : k90 * (total - along) + 1000 * along < 2 ^ 73
  den_short = lt_of_le_of_lt den_most (product_bits 11 62 (lit< tt) w.force_high)

-- the ranges make the bearings' ratios: 9 n ≤ 10 D
module _ (m : Timber) (w : MemberWithin m) where
  pub num_positive : 0 < bearing_num m
  num_positive = mul-pos (omega (arith, w.density_low)) w.force

  split : m.along + (m.total - m.along) ≡ m.total
  split = omega (arith, w.angle)

  pub den_low : 990 * m.total ≤ bearing_den m
  den_low =
      go (m.total - m.along) split
    where
      go : (b : ℕ) → m.along + b ≡ m.total → 990 * m.total ≤ m.k90 * b + 1000 * m.along
      go b e = omega (arith, mul-le-mul_right b w.k90_low)

  pub den_positive : 0 < bearing_den m
  den_positive = omega (arith, w.force, den_low)

  pub ratio_bound : 9 * bearing_num m ≤ 10 * bearing_den m
  ratio_bound = omega (arith, mul-le-mul_right m.total w.density_high, den_low)

  within : BearingWithin m.density m.k90 m.along m.total
  within = record {
    density_high = w.density_high;
    k90_high = w.k90_high;
    angle = w.angle;
    force_high = w.force_high;
  }

  pub num_bits : bearing_num m < 2 ^ 73
  num_bits = num_short within

  pub den_high : bearing_den m ≤ 1800 * m.total
  den_high = den_most within

  pub den_bits : bearing_den m < 2 ^ 73
  den_bits = den_short within

-- the dowel's factor
pub factor_bound : (d : ℕ) → 6 ≤ d → d ≤ 30 → dowel_factor d ≤ 231240
factor_bound d low high = mul-le-mul {n₂ = 7708} (mul-le-mul_left {n = 94} 82 (omega arith)) high

pub factor_slope : (d : ℕ) → 6 ≤ d → dowel_factor d ≤ 7708 * d
factor_slope d low = mul-le-mul_right d (mul-le-mul_left {n = 94} 82 (omega arith))

-- 1000 f d t is at most 2^30
pub force_bound : (d : ℕ) (m : Timber) → 6 ≤ d → d ≤ 30 → MemberWithin m → force_of d m ≤ 1073741824 * bearing_den m
force_bound d m low high w =
    let a : dowel_factor d * m.thickness ≤ 924960000 = mul-le-mul (factor_bound d low high) w.thickness_high in
    go (dowel_factor d * m.thickness) (bearing_num m) (bearing_den m) a (ratio_bound m w)
  where
    go : (a n D : ℕ) → a ≤ 924960000 → 9 * n ≤ 10 * D → a * n ≤ 1073741824 * D
    go a n D h g = omega (arith, mul-le-mul_right n h)

-- the yield moment in thousandths of a Nmm
module _ (d fu : ℕ) (d-low : 6 ≤ d) (d-high : d ≤ 30) (fu-low : 300 ≤ fu) (fu-high : fu ≤ 800) where
  -- 2^5 ≤ d^3 < 8^5
  cube_low : 2 ^ 5 ≤ d ^ 3
  cube_low = le_trans {m = 6 ^ 3} (lit≤ tt) (pow-le-pow_left d-low 3)

  cube_high : d ^ 3 < 8 ^ 5
  cube_high = lt_of_le_of_lt {m = 30 ^ 3} (pow-le-pow_left d-high 3) (lit< tt)

  spread : (a : ℕ) → (a * (300 * fu * (d * d))) ^ 5 ≡ (300 * fu) ^ 5 * (d ^ 10 * a ^ 5)
  spread a =
      rw (mul_pow a (300 * fu * (d * d)) 5, mul_pow (300 * fu) (d * d) 5, mul_pow d d 5, pow-add d 5 5) (omega arith)

  thirteen : yield_to_the_fifth d fu ≡ (300 * fu) ^ 5 * (d ^ 10 * d ^ 3)
  thirteen = ap (λ (z : ℕ). (300 * fu) ^ 5 * z) (pow-add d 10 3)

  -- the yield moment lies between 2 and 8 times 0.3 fu d^2
  pub yield_above : (2 * (300 * fu * (d * d))) ^ 5 ≤ yield_to_the_fifth d fu
  yield_above =
      rw (spread 2, thirteen) (mul-le-mul_left ((300 * fu) ^ 5) (mul-le-mul_left (d ^ 10) cube_low))

  pub yield_below : yield_to_the_fifth d fu < (8 * (300 * fu * (d * d))) ^ 5
  yield_below =
      rw (spread 8, thirteen)
      (mul-lt-mul_of_pos_left (mul-lt-mul_of_pos_left cube_high (one-le-pow 10 d (omega arith)))
      (one-le-pow 5 (300 * fu) (omega arith)))

  pub yield_fits : yield_to_the_fifth d fu < 2147483648 ^ 5
  yield_fits =
      lt_of_le_of_lt
      (mul-le-mul (pow-le-pow_left (mul-le-mul_left 300 fu-high) 5) (pow-le-pow_left d-high 13))
      (lit< tt)

  pub yield_root : FifthRoot (yield_to_the_fifth d fu) 1 (yield_moment_of d fu)
  unfolding yield_moment_of
  yield_root = fifth_root_of_lem (yield_to_the_fifth d fu) 1 (lt_of_lt_of_le yield_fits (lit≤ tt))

  pub yield_high : yield_moment_of d fu < 2147483648
  yield_high =
      pow_lt_back (yield_moment_of d fu) 2147483648 5
      (lt_of_le_of_lt (omega (arith, yield_root.low)) yield_fits)

  pub yield_low : 540000 * d ≤ yield_moment_of d fu
  yield_low =
      let root : 300 * fu * (d * d) < yield_moment_of d fu + 1 =
      pow_lt_back (300 * fu * (d * d)) (yield_moment_of d fu + 1) 5
      (lt_of_le_of_lt {m = yield_to_the_fifth d fu}
      (rw (mul_pow (300 * fu) (d * d) 5, mul_pow d d 5, ← (pow-add d 5 5))
      (mul-le-mul_left ((300 * fu) ^ 5) (pow-le-pow_right (omega arith) (lit≤ tt))))
      (omega (arith, yield_root.high))) in
      omega (arith, mul-le-mul_left (90000 * d) d-low, mul-le-mul_right (300 * (d * d)) fu-low)

module _ (p : Plane) (w : PlaneWithin p) where
  pub sum_positive : 0 < cross_sum p
  sum_positive =
      omega (arith, mul-pos (num_positive p.member1 w.member1) (den_positive p.member2 w.member2))

  -- 9 n1 n2 ≤ 10 S
  pub product_bound : 9 * (bearing_num p.member1 * bearing_num p.member2) ≤ 10 * cross_sum p
  product_bound =
      go (bearing_num p.member1) (bearing_den p.member1) (bearing_num p.member2) (bearing_den p.member2)
      (ratio_bound p.member1 w.member1)
    where
      go : (n1 D1 n2 D2 : ℕ) → 9 * n1 ≤ 10 * D1 → 9 * (n1 * n2) ≤ 10 * (n1 * D2 + n2 * D1)
      go n1 D1 n2 D2 h = omega (arith, mul-le-mul_right n2 h)

  pub sum_high : cross_sum p < 2 ^ 147
  sum_high =
      sum_bits 146 (product_bits 73 73 (num_bits p.member1 w.member1) (den_bits p.member2 w.member2))
      (product_bits 73 73 (num_bits p.member2 w.member2) (den_bits p.member1 w.member1))
