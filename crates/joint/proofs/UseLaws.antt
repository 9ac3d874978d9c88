-- The use over plain numbers: U is enough, and no more than a two-hundredth part plus 2 above what is enough.
-- P is 'at most R', c/1000 is at most R and (c + 2)/1000 is above it; T planes count, T2 is twice T, and h is kmod in hundredths.
use Prim.Native.Nat.{ℕ, ◌+◌, ◌*◌, ◌≤◌, ◌<◌}
use mathlib.Core.Path.{◌≡◌, ap}
use native.Mathlib.Omega.{arith}
use native.Mathlib.Nat.{mul-pos, mul-le-mul_left, mul-le-mul_right, mul-lt-mul_of_pos_right, le_of_lt, lt_of_not-le, le_of_mul-le-mul_left}
use native.Mathlib.Nat.{le_of_mul-le-mul_right, lt_of_mul-lt-mul_left}
use lib.Dec.{lit<}
use Rattle.strength.specs.Fraction.{Fraction, ◌over◌, whole, ◌↑◌, ◌≼◌, Proper}
use Rattle.wide.proofs.Powers.{square_lt, square_is}
use Rattle.joint.specs.Use.{plane_force, row_force, WithinUse, Above0}

-- a fraction whose square is at most F stays below G/1024, where 2^20 F is below G²
pub below_root : (F G : ℕ) (g : Fraction) → Proper g → (g ↑ 2) ≼ whole F → 1048576 * F < G * G → 1024 * g.num < G * g.den
below_root F G g pg h hG =
    square_lt (1024 * g.num) (G * g.den)
    (omega (arith, rw (square_is g.num, square_is g.den) at h, mul-lt-mul_of_pos_right hG (mul-pos pg pg)))

-- a ceiling stays within the use, over plain numbers: v is n/d, q is T2 h, and the force at v is below (c + 2)/1000
total_plain :
    (q c U G n d : ℕ) → 0 < q → 1000 ≤ c → 1024 ≤ G → U * (1024 * q * c) < 2600000000 * (G + 1) + 1024 * q * c →
    260000 * (G * d) < (c + 2) * (1024 * (q * n)) → U * d ≤ 10050 * n + 2 * d
total_plain q c U G n d pq large hG hU b =
    le_of_mul-le-mul_right {k = 1024 * q * c}
    (omega (arith, mul-le-mul_right d (le_of_lt hU), mul-le-mul_right d hG, mul-le-mul_right (q * n) large))
    (mul-pos (mul-pos (lit< tt) pq) (omega arith))

row_plain :
    (q c U a E n d : ℕ) → 0 < q → 1000 ≤ c → 1000 ≤ E → U * (q * E * c) < 26000000000000 * a + q * E * c →
    2600000000 * (a * d) < (c + 2) * ((E + 2) * (q * n)) → U * d ≤ 10050 * n + 2 * d
row_plain q c U a E n d pq large hE hU b =
    le_of_mul-le-mul_right {k = q * E * c}
    (omega (
      arith,
      mul-le-mul_right d (le_of_lt hU),
      mul-le-mul_right (c * (q * n)) hE,
      mul-le-mul_right (q * n) large,
      mul-le-mul_right (E * (q * n)) large,
      mul-le-mul_right (q * n) hE,
    ))
    (mul-pos (mul-pos pq (omega arith)) (omega arith))

module _ (P : Fraction → Type 0) (falls : (x y : Fraction) → Proper x → y ≼ x → P x → P y)
    (c : ℕ) (low : P (c over 1000)) (high : P ((c + 2) over 1000) → ⊥) where
  -- what is at most R is below (c + 2)/1000
  below : (x : Fraction) → Proper x → P x → 1000 * x.num < (c + 2) * x.den
  below x px p = lt_of_not-le (λ h. high (falls x ((c + 2) over 1000) px (omega arith) p))

  at_most : (x : Fraction) → 1000 * x.num ≤ c * x.den → P x
  at_most x h = falls (c over 1000) x (omega arith) (omega arith) low

  module _ (T : Fraction) (T2 h U : ℕ) (twice : 2 * T.num ≡ T2 * T.den) where
    -- the total check passes at U/10,000
    pub total_enough :
        (F G : ℕ) → 1048576 * F < G * G → 2600000000 * G ≤ U * (1024 * (T2 * h) * c) →
        (g : Fraction) → Proper g → (g ↑ 2) ≼ whole F → P (plane_force g T h (U over 10000))
    total_enough F G hG hU g pg hg =
        let l : 1024 * g.num ≤ G * g.den = le_of_lt (below_root F G g pg hg hG) in
        at_most (plane_force g T h (U over 10000))
        (le_of_mul-le-mul_left {k = 2048}
        (omega (
          arith,
          mul-le-mul_left (2600000000 * T.den) l,
          mul-le-mul_right (g.den * T.den) hU,
          ap (λ z. 1024 * (U * h * c * g.den) * z) twice,
        ))
        (omega arith))

    -- the row check passes at U/10,000 for every e that is at least E n/10,000
    pub row_enough :
        (a n E : ℕ) → 0 < E → 26000000000000 * a ≤ U * (T2 * h * E * c) →
        (e : Fraction) → E * n * e.den ≤ 10000 * e.num → P (row_force a n e T h (U over 10000))
    row_enough a n E pE hU e he =
        at_most (row_force a n e T h (U over 10000))
        (le_of_mul-le-mul_left {k = 2 * E}
        (omega (
          arith,
          mul-le-mul_left (2600000000 * a * T.den) he,
          mul-le-mul_right (e.num * T.den) hU,
          ap (λ z. U * h * E * c * e.num * z) twice,
        ))
        (omega arith))

    module _ (large : 1000 ≤ c) (pT : 0 < T.num) (pd : 0 < T.den) (ph : 0 < h) (v : Fraction) (pv : Above0 v) where
      some : 0 < T2 * h
      some = mul-pos (lt_of_not-le (λ z. absurd (omega (arith, mul-le-mul_right T.den z)))) ph

      -- and where a check passes at v, the ceiling that U is stays within the use
      pub total_within :
          (G : ℕ) → 1024 ≤ G → U * (1024 * (T2 * h) * c) < 2600000000 * (G + 1) + 1024 * (T2 * h) * c →
          P (plane_force (G over 1024) T h v) → WithinUse U v
      total_within G hG hU p =
          let b =
          below (plane_force (G over 1024) T h v) (mul-pos (lit< tt) (mul-pos (mul-pos pT ph) pv.num)) p in
          let s : 260000 * (G * v.den) < (c + 2) * (1024 * (T2 * h * v.num)) =
          lt_of_mul-lt-mul_left T.den (omega (arith, ap (λ z. (c + 2) * (1024 * (h * v.num)) * z) twice)) in
          omega (arith, total_plain (T2 * h) c U G v.num v.den some large hG hU s)

      pub row_within :
          (a n E : ℕ) → 0 < n → 1000 ≤ E → U * (T2 * h * E * c) < 26000000000000 * a + T2 * h * E * c →
          P (row_force a n (((E + 2) * n) over 10000) T h v) → WithinUse U v
      row_within a n E pn hE hU p =
          let x = row_force a n (((E + 2) * n) over 10000) T h v in
          let px : Proper x =
          mul-pos (lit< tt) (mul-pos (mul-pos (mul-pos (mul-pos (omega arith) pn) pT) ph) pv.num) in
          let b = below x px p in
          let s : 2600000000 * (a * v.den) < (c + 2) * ((E + 2) * (T2 * h * v.num)) =
          lt_of_mul-lt-mul_left (n * T.den)
          (omega (arith, ap (λ z. (c + 2) * ((E + 2) * (n * h * v.num)) * z) twice)) in
          omega (arith, row_plain (T2 * h) c U a E v.num v.den some large hE hU s)
