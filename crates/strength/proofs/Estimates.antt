-- Why the whole numbers bracket R, over plain numbers: c passes each test and c + 2 fails it. Units are thousandths.
use Rattle.std.proofs.Common.{◌≡◌, ℕ, ◌+◌, ◌-◌, ◌*◌, ◌^◌, ◌<◌, ◌≤◌, ap, le_trans, lt_of_lt_of_le, lt_of_le_of_lt, le_of_lt, mul-le-mul_right, add-sub_of_le, mul-le-mul, mul-le-mul_left, mul-pos, le_of_mul-le-mul_right, arith}
use native.Mathlib.Nat.{mul-lt-mul_of_pos_left, pow-le-pow_left, one-le-pow}
use Rattle.wide.proofs.Powers.{square_le, pow_lt_back, mul_pow}

-- The first term: c² Q at most Y M, with M the fifth root of W; m is its whole part, Z the whole part of Y m / Q.
module _ (Q Y W m Z c : ℕ) where
  pub first_passes : m ^ 5 ≤ W → Q * Z ≤ Y * m → c * c ≤ Z → (Q * (c * c)) ^ 5 ≤ Y ^ 5 * W
  first_passes root quotient square =
      let h : Q * (c * c) ≤ Y * m = le_trans (mul-le-mul_left Q square) quotient in
      le_trans (pow-le-pow_left h 5) (rw (mul_pow Y m 5) (mul-le-mul_left (Y ^ 5) root))

  -- m + 1 for m adds Y to Y m, which is less than Q ((c + 2)² - (c + 1)²) where m is not too small beside Y / Q
  pub first_fails :
      W < (m + 1) ^ 5 → Y * m < Q * (Z + 1) → Z < (c + 1) * (c + 1) → 0 < Y → Y ≤ 4 * m * Q
      → (Q * ((c + 2) * (c + 2))) ^ 5 ≤ Y ^ 5 * W → ⊥
  first_fails root quotient square pos coarse passes =
      let a : Q * ((c + 2) * (c + 2)) < Y * (m + 1) =
      pow_lt_back (Q * ((c + 2) * (c + 2))) (Y * (m + 1)) 5
      (lt_of_le_of_lt passes (rw (mul_pow Y (m + 1) 5) (mul-lt-mul_of_pos_left root (one-le-pow 5 Y pos)))) in
      let b : Y * m < Q * ((c + 1) * (c + 1)) = lt_of_lt_of_le quotient (mul-le-mul_left Q (omega arith)) in
      let s : Y * Y ≤ 2 * Q * (c + 1) * (2 * Q * (c + 1)) =
      omega (arith, mul-le-mul_left Y coarse, mul-le-mul_left (4 * Q) (le_of_lt b)) in
      let t : Y ≤ 2 * Q * (c + 1) = square_le Y (2 * Q * (c + 1)) s in
      omega arith

-- The wedge x ≤ K, x² ≤ (K - x)² s² with K = P/D and s² = v/S. r is the whole root of 2^60 s², q stands for 2^30.
pub record PlainWedge (P D v S c : ℕ) : Type 0 where
  pub within : c * D ≤ P
  pub square : c * D * (c * D) * S ≤ (P - c * D) * (P - c * D) * v

module _ (P D v S q r c : ℕ) where
  pub wedge_passes : 0 < q → r * r * S ≤ q * q * v → c * (D * (q + r)) ≤ P * r → PlainWedge P D v S c
  wedge_passes pos root quotient =
      let w : c * D ≤ P =
      le_of_mul-le-mul_right {k = q + r} (omega arith) (omega arith) in
      let e : ℕ = P - c * D in
      let d : c * D + e ≡ P = add-sub_of_le w in
      let l : c * D * q ≤ e * r = omega (arith, ap (λ (z : ℕ). z * r) d) in
      record {
        within = w;
        square =
            le_of_mul-le-mul_right {k = q * q}
            (omega (arith, mul-le-mul_right S (mul-le-mul l l), mul-le-mul_left (e * e) root))
            (mul-pos pos pos);
      }

  pub wedge_fails :
      0 < S → q * q * v < (r + 1) * (r + 1) * S → P * r < (c + 1) * (D * (q + r)) → P ≤ q * D
      → PlainWedge P D v S (c + 2) → ⊥
  wedge_fails pos root quotient bound passes =
      let e : ℕ = P - (c + 2) * D in
      let d : (c + 2) * D + e ≡ P = add-sub_of_le passes.within in
      let l : (c + 2) * D * q * ((c + 2) * D * q) ≤ e * (r + 1) * (e * (r + 1)) =
      le_of_mul-le-mul_right {k = S}
      (omega (arith, mul-le-mul_right (q * q) passes.square, mul-le-mul_left (e * e) (le_of_lt root)))
      pos in
      let t : (c + 2) * D * q ≤ e * (r + 1) = square_le ((c + 2) * D * q) (e * (r + 1)) l in
      omega (arith, ap (λ (z : ℕ). z * (r + 1)) d)
