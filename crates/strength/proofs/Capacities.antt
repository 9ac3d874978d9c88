-- The capacity by definition brackets R: c ≤ 1000 R < c + 2, and its newtons C ≤ R < C + 2.
use Rattle.std.proofs.Common.{ℕ, ◌+◌, ◌-◌, ◌*◌, ◌/◌, ◌^◌, ◌<◌, ◌≤◌, min, Bool, true, false, cond, eqb, sym, refl, le_trans, lt_of_lt_of_le, le-add_right, lt_of_le_of_lt, le_of_lt, lt_irrefl, mul-le-mul_right, mul-le-mul, mul-le-mul_left, mul-pos, lt_of_not-le, mul-one, div-mul-le_self, le-add_left, arith, lit<}
use native.Mathlib.Nat.{le-min, min-le_left, min-le_right, mul-div-le, lt-mul-div-succ, lt-div-mul-add, div-le_of_le-mul, one-le-pow}
use Rattle.strength.specs.declared.plane.Timber.{Timber}
use Rattle.strength.specs.declared.plane.Plane.{Plane}
use Rattle.strength.specs.Fraction.{Fraction, ◌over◌, whole, ◌⊕◌, ◌⊗◌, ◌⊘◌, ◌↑◌, ◌≼◌, ◌≈◌, Proper}
use Rattle.strength.specs.Roots.{SquareRoot, FifthRoot}
use Rattle.strength.specs.Shear.{
  bearing,
  f1,
  f2,
  Wedge,
  AtMostFirst,
  AtMostSecond,
  AtMostThird,
  AtMostR,
  AboveR,
  OneOrTwo,
  MemberWithin,
  PlaneWithin,
  bearing_force,
  s_squared,
  c_squared,
  first_to_the_tenth,
}
use Rattle.strength.specs.Working.{bearing_num, bearing_den, crossed, cross_sum, dowel_factor, yield_to_the_fifth, yield_moment_of, first_of, force_of, share_root_of, wedge_of, half_of, second_of, third_of, capacity_of}
use Rattle.wide.proofs.Powers.{square_le}
use Rattle.strength.proofs.Ratios.{Positive, ≼_trans, ≈-le, ⊗-≈, ⊘-≈, ↑-≈}
use Rattle.strength.proofs.Estimates.{first_passes, first_fails, PlainWedge, wedge_passes, wedge_fails}
use Rattle.strength.proofs.Greatest.{square_root_of_lem}
use Rattle.strength.proofs.Bearings.{bearing_is, F, joined-≈, s-≈, c-≈, force-≈, s_positive, c_positive, side_force_positive, other_force_positive, first_positive}
use Rattle.strength.proofs.Sizes.{num_positive, den_positive, factor_bound, factor_slope, yield_root, yield_high, yield_low, sum_positive, product_bound, force_bound}
use Rattle.strength.proofs.Plain.{first_plain, wedge-≈, wedge_plain, half_plain}
use Rattle.strength.proofs.Falling.{first_falls, second_falls, third_falls, falls}

next_quotient : (a b : ℕ) → 0 < b → a < (a / b + 1) * b
next_quotient a b h = omega (arith, lt-div-mul-add {a = a} h)

-- the whole root of 2^60 v/S, where v ≤ S
module _ (v S : ℕ) (below : v ≤ S) (pos : 0 < S) where
  share_fits : 1152921504606846976 * v / S < 2 ^ 64
  share_fits =
      lt_of_le_of_lt (div-le_of_le-mul S {n = 1152921504606846976} (omega (arith, mul-le-mul_left 1152921504606846976 below)))
      (lit< tt)

  root : SquareRoot (1152921504606846976 * v / S) (share_root_of v S)
  unfolding share_root_of
  root = square_root_of_lem (1152921504606846976 * v / S) share_fits

  pub share_bound : share_root_of v S ≤ 1073741824
  share_bound =
      square_le (share_root_of v S) 1073741824
      (le_trans root.low
      (div-le_of_le-mul S (omega (arith, mul-le-mul_left 1152921504606846976 below))))

  pub share_low : share_root_of v S * share_root_of v S * S ≤ 1073741824 * 1073741824 * v
  share_low = omega (arith, mul-le-mul_right S root.low, mul-div-le (1152921504606846976 * v) S)

  pub share_high : 1073741824 * 1073741824 * v < (share_root_of v S + 1) * (share_root_of v S + 1) * S
  share_high =
      omega (arith, mul-le-mul_right S root.high, lt-mul-div-succ (1152921504606846976 * v) pos)

-- the second term, and the third for one shear plane, with P/D for f d t
module _ (P D v S : ℕ) (below : v ≤ S) (pos : 0 < S) (D-pos : 0 < D) (bound : P ≤ 1073741824 * D) where
  pub wedge_low : PlainWedge P D v S (wedge_of P D (share_root_of v S))
  unfolding wedge_of
  wedge_low =
      wedge_passes P D v S 1073741824 (share_root_of v S) (wedge_of P D (share_root_of v S)) (lit< tt) (share_low v S below pos)
      (div-mul-le_self (P * share_root_of v S) (D * (1073741824 + share_root_of v S)))

  pub wedge_high : PlainWedge P D v S (wedge_of P D (share_root_of v S) + 2) → ⊥
  unfolding wedge_of
  wedge_high =
      wedge_fails P D v S 1073741824 (share_root_of v S) (wedge_of P D (share_root_of v S)) pos (share_high v S below pos)
      (next_quotient (P * share_root_of v S) (D * (1073741824 + share_root_of v S)) (mul-pos D-pos (omega arith)))
      bound

-- the first term, with W the fifth power of the yield moment
module _ (k m nn S W : ℕ) (pos : 0 < S) (bound : 9 * nn ≤ 10 * S) (k-high : k ≤ 231240) (m-high : m < 2147483648) where
  radicand_fits : 529 * k * m * nn / (10 * S) < 2 ^ 64
  radicand_fits =
      lt_of_le_of_lt {m = 529 * k * m * 2}
      (div-le_of_le-mul (10 * S) (omega (arith, mul-le-mul_left (529 * k * m) bound)))
      (lt_of_le_of_lt {m = 529 * 231240 * 2147483648 * 2}
      (mul-le-mul_right 2 (mul-le-mul (mul-le-mul_left 529 k-high) (le_of_lt m-high)))
      (lit< tt))

  pub radicand_root : SquareRoot (529 * k * m * nn / (10 * S)) (first_of k m nn S)
  unfolding first_of
  radicand_root = square_root_of_lem (529 * k * m * nn / (10 * S)) radicand_fits

  pub first_low : m ^ 5 ≤ W → (10 * S * (first_of k m nn S * first_of k m nn S)) ^ 5 ≤ (529 * (k * nn)) ^ 5 * W
  first_low h =
      first_passes (10 * S) (529 * (k * nn)) W m (529 * k * m * nn / (10 * S)) (first_of k m nn S) h
      (le_trans (mul-div-le (529 * k * m * nn) (10 * S)) (omega arith))
      radicand_root.low

  pub first_high : W < (m + 1) ^ 5 → 0 < k → 0 < nn → 529 * k ≤ 36 * m
      → (10 * S * ((first_of k m nn S + 2) * (first_of k m nn S + 2))) ^ 5 ≤ (529 * (k * nn)) ^ 5 * W → ⊥
  first_high h k-pos nn-pos coarse =
      first_fails (10 * S) (529 * (k * nn)) W m (529 * k * m * nn / (10 * S)) (first_of k m nn S) h
      (lt_of_le_of_lt {m = 529 * k * m * nn} (omega arith) (lt-mul-div-succ (529 * k * m * nn) (omega arith)))
      radicand_root.high
      (omega (arith, mul-pos k-pos nn-pos))
      (omega (arith, mul-le-mul_left (529 * k) bound, mul-le-mul_right S coarse))

-- d f1 f2/(f1 + f2) and the first term's tenth power as ratios
abbrev joined_ratio : Plane → Fraction
joined_ratio p = (dowel_factor p.diameter * (bearing_num p.member1 * bearing_num p.member2)) over (100 * cross_sum p)

abbrev first_ratio : Plane → Fraction
first_ratio p =
    (23 over 10) ↑ 10 ⊗ joined_ratio p ↑ 5 ⊗ (3 over 10 ⊗ whole p.steel) ↑ 5 ⊗ whole p.diameter ↑ 13

-- x at most f2 d t2 / 2
half-≈ : (K K' : Fraction) → K ≈ K' → (K ⊘ whole 2) ≈ (K' ⊘ whole 2)
half-≈ K K' e = ⊘-≈ K K' (whole 2) (whole 2) e refl

module _ (p : Plane) (w : PlaneWithin p) where
  rest_positive : 0 < 82 * (100 - p.diameter)
  rest_positive = omega (arith, w.dowel.diameter_high)

  side_ratio_positive : Positive (F (82 * (100 - p.diameter)) (bearing_num p.member1) (bearing_den p.member1))
  side_ratio_positive = record {
    num = mul-pos rest_positive (num_positive p.member1 w.member1);
    den = omega (arith, den_positive p.member1 w.member1);
  }

  other_ratio_positive : Positive (F (82 * (100 - p.diameter)) (bearing_num p.member2) (bearing_den p.member2))
  other_ratio_positive = record {
    num = mul-pos rest_positive (num_positive p.member2 w.member2);
    den = omega (arith, den_positive p.member2 w.member2);
  }

  joined_ratio_lem : (whole p.diameter ⊗ f1 p ⊗ f2 p ⊘ (f1 p ⊕ f2 p)) ≈ joined_ratio p
  joined_ratio_lem =
      joined-≈ (f1 p) (f2 p) (82 * (100 - p.diameter)) (bearing_num p.member1) (bearing_den p.member1)
      (bearing_num p.member2)
      (bearing_den p.member2)
      side_ratio_positive
      other_ratio_positive
      (bearing_is p.diameter p.member1)
      (bearing_is p.diameter p.member2)
      p.diameter
      (omega (arith, w.dowel.diameter_low))

  s_ratio : s_squared p ≈ (crossed p.member2 p.member1 over cross_sum p)
  s_ratio =
      s-≈ (f1 p) (f2 p) (82 * (100 - p.diameter)) (bearing_num p.member1) (bearing_den p.member1) (bearing_num p.member2)
      (bearing_den p.member2)
      side_ratio_positive
      other_ratio_positive
      (bearing_is p.diameter p.member1)
      (bearing_is p.diameter p.member2)

  c_ratio : c_squared p ≈ (crossed p.member1 p.member2 over cross_sum p)
  c_ratio =
      c-≈ (f1 p) (f2 p) (82 * (100 - p.diameter)) (bearing_num p.member1) (bearing_den p.member1) (bearing_num p.member2)
      (bearing_den p.member2)
      side_ratio_positive
      other_ratio_positive
      (bearing_is p.diameter p.member1)
      (bearing_is p.diameter p.member2)

  force_ratio : (m : Timber) → MemberWithin m →
      bearing_force p.diameter m ≈ (force_of p.diameter m over (1000 * bearing_den m))
  force_ratio m wm =
      force-≈ (bearing p.diameter m) (82 * (100 - p.diameter)) (bearing_num m) (bearing_den m) p.diameter m.thickness
      (den_positive m wm)
      (bearing_is p.diameter m)

  first_ratio_lem : first_to_the_tenth p ≈ first_ratio p
  first_ratio_lem =
      let J = whole p.diameter ⊗ f1 p ⊗ f2 p ⊘ (f1 p ⊕ f2 p) in
      let C = (23 over 10) ↑ 10 in
      let M = (3 over 10 ⊗ whole p.steel) ↑ 5 in
      let D = whole p.diameter ↑ 13 in
      ⊗-≈ (C ⊗ J ↑ 5 ⊗ M) (C ⊗ joined_ratio p ↑ 5 ⊗ M) D D
      (⊗-≈ (C ⊗ J ↑ 5) (C ⊗ joined_ratio p ↑ 5) M M
      (⊗-≈ C C (J ↑ 5) (joined_ratio p ↑ 5) refl (↑-≈ J (joined_ratio p) 5 joined_ratio_lem))
      refl)
      refl

  first_iff_to : (c : ℕ) → AtMostFirst p (c over 1000)
      → (10 * cross_sum p * (c * c)) ^ 5
      ≤ (529 * (dowel_factor p.diameter * (bearing_num p.member1 * bearing_num p.member2))) ^ 5
      * yield_to_the_fifth p.diameter p.steel
  first_iff_to c l =
      (first_plain c (cross_sum p) (dowel_factor p.diameter * (bearing_num p.member1 * bearing_num p.member2)) p.steel
      p.diameter
      ).0 (≼_trans ((c over 1000) ↑ 10) (first_to_the_tenth p) (first_ratio p) (first_positive p w).den l
      (≈-le (first_to_the_tenth p) (first_ratio p) first_ratio_lem))

  first_ratio_proper : Proper (first_ratio p)
  first_ratio_proper =
      mul-pos
      (mul-pos
      (mul-pos {m = 10000000000} (lit< tt) (one-le-pow 5 (100 * cross_sum p) (omega (arith, sum_positive p w))))
      (lit< tt))
      (lit< tt)

  first_iff_from : (c : ℕ)
      → (10 * cross_sum p * (c * c)) ^ 5
      ≤ (529 * (dowel_factor p.diameter * (bearing_num p.member1 * bearing_num p.member2))) ^ 5
      * yield_to_the_fifth p.diameter p.steel
      → AtMostFirst p (c over 1000)
  first_iff_from c l =
      ≼_trans ((c over 1000) ↑ 10) (first_ratio p) (first_to_the_tenth p) first_ratio_proper
      ((first_plain c (cross_sum p) (dowel_factor p.diameter * (bearing_num p.member1 * bearing_num p.member2)) p.steel
      p.diameter
      ).1 l)
      (≈-le (first_ratio p) (first_to_the_tenth p) (sym first_ratio_lem))

  -- a wedge of the plane: member m, and s² or c² as the ratio v/S
  module _ (m : Timber) (wm : MemberWithin m) (pK : Positive (bearing_force p.diameter m)) (q : Fraction) (pq : Positive q)
      (v : ℕ) (eq : q ≈ (v over cross_sum p)) (below : v ≤ cross_sum p) where
    pub term_low : Wedge (bearing_force p.diameter m) q
        (wedge_of (force_of p.diameter m) (bearing_den m) (share_root_of v (cross_sum p)) over 1000)
    term_low =
        wedge-≈ (force_of p.diameter m over (1000 * bearing_den m)) (bearing_force p.diameter m) (v over cross_sum p) q
        (wedge_of (force_of p.diameter m) (bearing_den m) (share_root_of v (cross_sum p)) over 1000)
        (mul-pos {m = 1000} (lit< tt) (den_positive m wm))
        (sum_positive p w)
        (lit< tt)
        (sym (force_ratio m wm))
        (sym eq)
        ((wedge_plain (force_of p.diameter m) (bearing_den m) v (cross_sum p)
        (wedge_of (force_of p.diameter m) (bearing_den m) (share_root_of v (cross_sum p)))
        ).1 (wedge_low (force_of p.diameter m) (bearing_den m) v (cross_sum p) below (sum_positive p w)
        (den_positive m wm)
        (force_bound p.diameter m w.dowel.diameter_low w.dowel.diameter_high wm)))

    pub term_high : Wedge (bearing_force p.diameter m) q
        ((wedge_of (force_of p.diameter m) (bearing_den m) (share_root_of v (cross_sum p)) + 2) over 1000)
        → ⊥
    term_high l =
        wedge_high (force_of p.diameter m) (bearing_den m) v (cross_sum p) below (sum_positive p w) (den_positive m wm)
        (force_bound p.diameter m w.dowel.diameter_low w.dowel.diameter_high wm)
        ((wedge_plain (force_of p.diameter m) (bearing_den m) v (cross_sum p)
        (wedge_of (force_of p.diameter m) (bearing_den m) (share_root_of v (cross_sum p)) + 2)
        ).0 (wedge-≈ (bearing_force p.diameter m) (force_of p.diameter m over (1000 * bearing_den m)) q
        (v over cross_sum p)
        ((wedge_of (force_of p.diameter m) (bearing_den m) (share_root_of v (cross_sum p)) + 2) over 1000)
        pK.den
        pq.den
        (lit< tt)
        (force_ratio m wm)
        eq
        l))

  -- the three terms by definition
  first_term : ℕ
  first_term =
      first_of (dowel_factor p.diameter) (yield_moment_of p.diameter p.steel)
      (bearing_num p.member1 * bearing_num p.member2)
      (cross_sum p)

  factor_positive : 0 < dowel_factor p.diameter
  factor_positive = mul-pos rest_positive (omega (arith, w.dowel.diameter_low))

  moment_root : FifthRoot (yield_to_the_fifth p.diameter p.steel) 1 (yield_moment_of p.diameter p.steel)
  moment_root = yield_root p.diameter p.steel w.dowel.diameter_low w.dowel.diameter_high w.dowel.steel_low w.dowel.steel_high

  moment_high : yield_moment_of p.diameter p.steel < 2147483648
  moment_high = yield_high p.diameter p.steel w.dowel.diameter_low w.dowel.diameter_high w.dowel.steel_low w.dowel.steel_high

  factor_small : 529 * dowel_factor p.diameter ≤ 36 * yield_moment_of p.diameter p.steel
  factor_small =
      small (dowel_factor p.diameter) (yield_moment_of p.diameter p.steel) (factor_slope p.diameter w.dowel.diameter_low)
      (yield_low p.diameter p.steel w.dowel.diameter_low w.dowel.diameter_high w.dowel.steel_low w.dowel.steel_high)
    where
      small : (k m : ℕ) → k ≤ 7708 * p.diameter → 540000 * p.diameter ≤ m → 529 * k ≤ 36 * m
      small k m h g = omega arith

  at_first : AtMostFirst p (first_term over 1000)
  unfolding first_term
  at_first =
      first_iff_from first_term
      (first_low (dowel_factor p.diameter) (yield_moment_of p.diameter p.steel)
      (bearing_num p.member1 * bearing_num p.member2)
      (cross_sum p)
      (yield_to_the_fifth p.diameter p.steel)
      (sum_positive p w)
      (product_bound p w)
      (factor_bound p.diameter w.dowel.diameter_low w.dowel.diameter_high)
      moment_high
      (rw mul-one at moment_root.low))

  past_first : AtMostFirst p ((first_term + 2) over 1000) → ⊥
  unfolding first_term
  past_first l =
      first_high (dowel_factor p.diameter) (yield_moment_of p.diameter p.steel)
      (bearing_num p.member1 * bearing_num p.member2)
      (cross_sum p)
      (yield_to_the_fifth p.diameter p.steel)
      (sum_positive p w)
      (product_bound p w)
      (factor_bound p.diameter w.dowel.diameter_low w.dowel.diameter_high)
      moment_high
      (rw mul-one at moment_root.high)
      factor_positive
      (mul-pos (num_positive p.member1 w.member1) (num_positive p.member2 w.member2))
      factor_small
      (first_iff_to (first_term + 2) l)

  at_second : AtMostSecond p (second_of p over 1000)
  unfolding second_of
  at_second =
      term_low p.member1 w.member1 (side_force_positive p w) (s_squared p) (s_positive p w) (crossed p.member2 p.member1)
      s_ratio
      (le-add_left (crossed p.member2 p.member1) (crossed p.member1 p.member2))

  past_second : AtMostSecond p ((second_of p + 2) over 1000) → ⊥
  unfolding second_of
  past_second =
      term_high p.member1 w.member1 (side_force_positive p w) (s_squared p) (s_positive p w) (crossed p.member2 p.member1)
      s_ratio
      (le-add_left (crossed p.member2 p.member1) (crossed p.member1 p.member2))

  -- the third term for one shear plane and for two
  abbrev one : ℕ
  one =
      wedge_of (force_of p.diameter p.member2) (bearing_den p.member2)
      (share_root_of (crossed p.member1 p.member2) (cross_sum p))

  abbrev two : ℕ
  two = half_of (force_of p.diameter p.member2) (bearing_den p.member2)

  abbrev third_test : Bool → Fraction → Type 0
  third_test b x =
      OneOrTwo b (Wedge (bearing_force p.diameter p.member2) (c_squared p) x)
      (x ≼ bearing_force p.diameter p.member2 ⊘ whole 2)

  at_half : (two over 1000) ≼ (bearing_force p.diameter p.member2 ⊘ whole 2)
  unfolding half_of
  at_half =
      let K = force_of p.diameter p.member2 over (1000 * bearing_den p.member2) in
      ≼_trans (two over 1000) (K ⊘ whole 2) (bearing_force p.diameter p.member2 ⊘ whole 2)
      (mul-pos (mul-pos {m = 1000} (lit< tt) (den_positive p.member2 w.member2)) (lit< tt))
      ((half_plain (force_of p.diameter p.member2) (bearing_den p.member2) 0 0 two
      ).1 (div-mul-le_self (force_of p.diameter p.member2) (2 * bearing_den p.member2)))
      (≈-le (K ⊘ whole 2) (bearing_force p.diameter p.member2 ⊘ whole 2)
      (half-≈ K (bearing_force p.diameter p.member2) (sym (force_ratio p.member2 w.member2))))

  past_half : ((two + 2) over 1000) ≼ (bearing_force p.diameter p.member2 ⊘ whole 2) → ⊥
  unfolding half_of
  past_half l =
      let K = force_of p.diameter p.member2 over (1000 * bearing_den p.member2) in
      let h : (two + 2) * (2 * bearing_den p.member2) ≤ force_of p.diameter p.member2 =
      (half_plain (force_of p.diameter p.member2) (bearing_den p.member2) 0 0 (two + 2)
      ).0 (≼_trans ((two + 2) over 1000) (bearing_force p.diameter p.member2 ⊘ whole 2) (K ⊘ whole 2)
      (mul-pos (other_force_positive p w).den (lit< tt))
      l
      (≈-le (bearing_force p.diameter p.member2 ⊘ whole 2) (K ⊘ whole 2)
      (half-≈ (bearing_force p.diameter p.member2) K (force_ratio p.member2 w.member2)))) in
      lt_irrefl (force_of p.diameter p.member2)
      (lt_of_lt_of_le
      (next_quotient (force_of p.diameter p.member2) (2 * bearing_den p.member2)
      (omega (arith, den_positive p.member2 w.member2)))
      (le_trans (mul-le-mul_right (2 * bearing_den p.member2) (omega arith)) h))

  at_third_by : (b : Bool) → third_test b (cond b one two over 1000)
  at_third_by true =
      term_low p.member2 w.member2 (other_force_positive p w) (c_squared p) (c_positive p w)
      (crossed p.member1 p.member2)
      c_ratio
      (le-add_right (crossed p.member1 p.member2) (crossed p.member2 p.member1))
  at_third_by false = at_half

  past_third_by : (b : Bool) → third_test b ((cond b one two + 2) over 1000) → ⊥
  past_third_by true =
      term_high p.member2 w.member2 (other_force_positive p w) (c_squared p) (c_positive p w)
      (crossed p.member1 p.member2)
      c_ratio
      (le-add_right (crossed p.member1 p.member2) (crossed p.member2 p.member1))
  past_third_by false = past_half

  at_third : AtMostThird p (third_of p over 1000)
  unfolding third_of
  at_third = at_third_by (eqb p.planes 1)

  past_third : AtMostThird p ((third_of p + 2) over 1000) → ⊥
  unfolding third_of
  past_third = past_third_by (eqb p.planes 1)

  -- thousandths in order
  in_order : (a b : ℕ) → a ≤ b → (a over 1000) ≼ (b over 1000)
  in_order a b h = omega arith

  -- c thousandths are at most R
  pub capacity_low : AtMostR p (capacity_of p over 1000)
  unfolding capacity_of first_term
  capacity_low =
      let a : ℕ = first_term in
      let b : ℕ = second_of p in
      let c : ℕ = third_of p in
      let x : ℕ = min (min a b) c in
      record {
        first = first_falls p w (a over 1000) (x over 1000) (lit< tt) (in_order x a (le_trans (min-le_left (min a b) c) (min-le_left a b))) at_first;
        second = second_falls p w (b over 1000) (x over 1000) (lit< tt) (in_order x b (le_trans (min-le_left (min a b) c) (min-le_right a b))) at_second;
        third = third_falls p w (c over 1000) (x over 1000) (lit< tt) (in_order x c (min-le_right (min a b) c)) at_third;
      }

  -- c + 2 thousandths are above R: else the least of the three would be less than itself
  pub capacity_high : AboveR p ((capacity_of p + 2) over 1000)
  unfolding capacity_of first_term
  capacity_high l =
      let a : ℕ = first_term in
      let b : ℕ = second_of p in
      let c : ℕ = third_of p in
      let x : ℕ = min (min a b) c in
      let below-a : x < a = lt_of_not-le (λ (h : a ≤ x). past_first (first_falls p w ((x + 2) over 1000) ((a + 2) over 1000) (lit< tt) (in_order (a + 2) (x + 2) (omega arith)) l.first)) in
      let below-b : x < b = lt_of_not-le (λ (h : b ≤ x). past_second (second_falls p w ((x + 2) over 1000) ((b + 2) over 1000) (lit< tt) (in_order (b + 2) (x + 2) (omega arith)) l.second)) in
      let below-c : x < c = lt_of_not-le (λ (h : c ≤ x). past_third (third_falls p w ((x + 2) over 1000) ((c + 2) over 1000) (lit< tt) (in_order (c + 2) (x + 2) (omega arith)) l.third)) in
      lt_irrefl x (le-min (le-min below-a below-b) below-c)

  -- C newtons, the thousandths rounded down
  pub newtons_low : AtMostR p (whole (capacity_of p / 1000))
  newtons_low =
      falls p w (capacity_of p over 1000) (whole (capacity_of p / 1000)) (lit< tt) (omega arith) capacity_low

  pub newtons_high : AboveR p (whole (capacity_of p / 1000 + 2))
  newtons_high l =
      capacity_high
      (falls p w (whole (capacity_of p / 1000 + 2)) ((capacity_of p + 2) over 1000) (lit< tt) (omega arith) l)
