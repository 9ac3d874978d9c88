-- The capacity by definition is at least 1,000 thousandths of a newton: what a use needs of it from below.
use Rattle.std.proofs.Common.{ℕ, ◌+◌, ◌*◌, ◌/◌, ◌<◌, ◌≤◌, Bool, true, false, cond, eqb, le_trans, le_of_suc-le-suc, le-add_right, lt_of_le_of_lt, mul-le-mul_right, mul-le-mul, lt_of_mul-lt-mul_right, mul-le-mul_left, mul-pos, le-div_iff_mul-le, le-add_left, arith}
use native.Mathlib.Nat.{le-min}
use Rattle.strength.specs.declared.plane.Timber.{Timber}
use Rattle.strength.specs.declared.plane.Plane.{Plane}
use Rattle.strength.specs.Shear.{MemberWithin, PlaneWithin}
use Rattle.strength.specs.Working.{bearing_num, bearing_den, crossed, cross_sum, dowel_factor, force_of, yield_moment_of, first_of, share_root_of, wedge_of, half_of, second_of, third_of, capacity_of}
use Rattle.wide.proofs.Powers.{square_lt}
use Rattle.strength.proofs.Sizes.{den_positive, den_high, ratio_bound, factor_bound, yield_high, yield_low, sum_positive, product_bound}
use Rattle.strength.proofs.Capacities.{share_high, radicand_root}

-- D is at most some 6.2 n
den_by_num : (m : Timber) → MemberWithin m → 29 * bearing_den m ≤ 180 * bearing_num m
den_by_num m w = go (bearing_den m) (den_high m w)
  where
    go : (D : ℕ) → D ≤ 1800 * m.total → 29 * D ≤ 180 * bearing_num m
    go D h = omega (arith, mul-le-mul_right m.total w.density_low)

factor_low : (d : ℕ) → 6 ≤ d → d ≤ 30 → 34440 ≤ dowel_factor d
factor_low d low high = mul-le-mul {n₁ = 5740} (mul-le-mul_left {m = 70} 82 (omega arith)) low

-- the first term
first_floor : (k m nn S c : ℕ) → 34440 ≤ k → 3240000 ≤ m → 29 * S ≤ 360 * nn → 0 < S
    → 529 * k * m * nn / (10 * S) < (c + 1) * (c + 1) → 1000 ≤ c
first_floor k m nn S c hk hm hs pos root =
    let f : 59028782400000 ≤ 529 * k * m = mul-le-mul (mul-le-mul_left 529 hk) hm in
    let z : 1000 * 1000 ≤ 529 * k * m * nn / (10 * S) =
    (le-div_iff_mul-le {k = 10 * S} (omega arith)).1 (omega (arith, mul-le-mul_right nn f)) in
    le_of_suc-le-suc (omega (arith, square_lt 1000 (c + 1) (lt_of_le_of_lt z root)))

-- the second term, and the third for one shear plane
wedge_floor : (P D v S : ℕ) → 0 < D → 0 < S → v ≤ S → S ≤ 8 * v → 1000000 * D ≤ P → 1000 ≤ wedge_of P D (share_root_of v S)
unfolding wedge_of
wedge_floor P D v S D-pos pos below share force =
    (le-div_iff_mul-le {k = D * (1073741824 + share_root_of v S)} (mul-pos D-pos (omega arith))
    ).1 (step (share_root_of v S) (share_high v S below pos))
  where
    step : (r : ℕ) → 1073741824 * 1073741824 * v < (r + 1) * (r + 1) * S → 1000 * (D * (1073741824 + r)) ≤ P * r
    step r h =
        let a : 268435456 * 268435456 * S < (r + 1) * (r + 1) * S = omega arith in
        let b : 268435456 < r + 1 = square_lt 268435456 (r + 1) (lt_of_mul-lt-mul_right S a) in
        let e : 268435456 ≤ r = omega arith in
        omega (arith, mul-le-mul_left D e, mul-le-mul_right r force)

-- the third term for two shear planes
half_floor : (P D : ℕ) → 0 < D → 1000000 * D ≤ P → 1000 ≤ half_of P D
unfolding half_of
half_floor P D pos force = (le-div_iff_mul-le {k = 2 * D} (omega arith)).1 (omega arith)

force_low : (d : ℕ) (m : Timber) → 6 ≤ d → d ≤ 30 → MemberWithin m → 1000000 * bearing_den m ≤ force_of d m
force_low d m low high w =
    go (dowel_factor d * m.thickness) (bearing_num m) (bearing_den m) (mul-le-mul (factor_low d low high) w.thickness_low)
    (den_by_num m w)
  where
    go : (a n D : ℕ) → 6888000 ≤ a → 29 * D ≤ 180 * n → 1000000 * D ≤ a * n
    go a n D h g = omega (arith, mul-le-mul_right n h)

-- n1 D2 is at most some 6.9 n2 D1
shares : (n1 D1 n2 D2 : ℕ) → 9 * n1 ≤ 10 * D1 → 29 * D2 ≤ 180 * n2 → n1 * D2 ≤ 7 * (n2 * D1)
shares n1 D1 n2 D2 h g = omega (arith, mul-le-mul_right (29 * D2) h, mul-le-mul_left (10 * D1) g)

module _ (p : Plane) (w : PlaneWithin p) where
  sums : 29 * cross_sum p ≤ 360 * (bearing_num p.member1 * bearing_num p.member2)
  sums =
      go (bearing_num p.member1) (bearing_den p.member1) (bearing_num p.member2) (bearing_den p.member2)
      (den_by_num p.member1 w.member1)
      (den_by_num p.member2 w.member2)
    where
      go : (n1 D1 n2 D2 : ℕ) → 29 * D1 ≤ 180 * n1 → 29 * D2 ≤ 180 * n2 → 29 * (n1 * D2 + n2 * D1) ≤ 360 * (n1 * n2)
      go n1 D1 n2 D2 h g = omega (arith, mul-le-mul_right n2 h, mul-le-mul_left n1 g)

  side_share : crossed p.member1 p.member2 ≤ 7 * crossed p.member2 p.member1
  side_share =
      shares (bearing_num p.member1) (bearing_den p.member1) (bearing_num p.member2) (bearing_den p.member2)
      (ratio_bound p.member1 w.member1)
      (den_by_num p.member2 w.member2)

  other_share : crossed p.member2 p.member1 ≤ 7 * crossed p.member1 p.member2
  other_share =
      shares (bearing_num p.member2) (bearing_den p.member2) (bearing_num p.member1) (bearing_den p.member1)
      (ratio_bound p.member2 w.member2)
      (den_by_num p.member1 w.member1)

  moment_low : 3240000 ≤ yield_moment_of p.diameter p.steel
  moment_low =
      le_trans (mul-le-mul_left 540000 w.dowel.diameter_low)
      (yield_low p.diameter p.steel w.dowel.diameter_low w.dowel.diameter_high w.dowel.steel_low w.dowel.steel_high)

  second_floor : 1000 ≤ second_of p
  unfolding second_of
  second_floor =
      wedge_floor (force_of p.diameter p.member1) (bearing_den p.member1) (crossed p.member2 p.member1) (cross_sum p)
      (den_positive p.member1 w.member1)
      (sum_positive p w)
      (le-add_left (crossed p.member2 p.member1) (crossed p.member1 p.member2))
      (whole (crossed p.member1 p.member2) (crossed p.member2 p.member1) side_share)
      (force_low p.diameter p.member1 w.dowel.diameter_low w.dowel.diameter_high w.member1)
    where
      whole : (u v : ℕ) → u ≤ 7 * v → u + v ≤ 8 * v
      whole u v h = omega arith

  third_by : (b : Bool) → 1000 ≤ cond b
      (wedge_of (force_of p.diameter p.member2) (bearing_den p.member2)
      (share_root_of (crossed p.member1 p.member2) (cross_sum p)))
      (half_of (force_of p.diameter p.member2) (bearing_den p.member2))
  third_by true =
      wedge_floor (force_of p.diameter p.member2) (bearing_den p.member2) (crossed p.member1 p.member2) (cross_sum p)
      (den_positive p.member2 w.member2)
      (sum_positive p w)
      (le-add_right (crossed p.member1 p.member2) (crossed p.member2 p.member1))
      (whole (crossed p.member2 p.member1) (crossed p.member1 p.member2) other_share)
      (force_low p.diameter p.member2 w.dowel.diameter_low w.dowel.diameter_high w.member2)
    where
      whole : (u v : ℕ) → u ≤ 7 * v → v + u ≤ 8 * v
      whole u v h = omega arith
  third_by false =
      half_floor (force_of p.diameter p.member2) (bearing_den p.member2) (den_positive p.member2 w.member2)
      (force_low p.diameter p.member2 w.dowel.diameter_low w.dowel.diameter_high w.member2)

  third_floor : 1000 ≤ third_of p
  unfolding third_of
  third_floor = third_by (eqb p.planes 1)

  -- c is at least 1,000 thousandths
  pub capacity_floor : 1000 ≤ capacity_of p
  unfolding capacity_of
  capacity_floor =
      le-min
      (le-min
      (first_floor (dowel_factor p.diameter) (yield_moment_of p.diameter p.steel)
      (bearing_num p.member1 * bearing_num p.member2)
      (cross_sum p)
      (first_of (dowel_factor p.diameter) (yield_moment_of p.diameter p.steel) (bearing_num p.member1 * bearing_num p.member2) (cross_sum p))
      (factor_low p.diameter w.dowel.diameter_low w.dowel.diameter_high)
      moment_low
      sums
      (sum_positive p w)
      (radicand_root (dowel_factor p.diameter) (yield_moment_of p.diameter p.steel)
      (bearing_num p.member1 * bearing_num p.member2)
      (cross_sum p)
      0
      (sum_positive p w)
      (product_bound p w)
      (factor_bound p.diameter w.dowel.diameter_low w.dowel.diameter_high)
      (yield_high p.diameter p.steel w.dowel.diameter_low w.dowel.diameter_high w.dowel.steel_low w.dowel.steel_high)
      ).high)
      second_floor)
      third_floor
