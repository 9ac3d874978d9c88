-- Each test of 01, at c thousandths, as an inequality of whole numbers.
use Rattle.std.proofs.Common.{◌≡◌, ℕ, ◌+◌, ◌-◌, ◌*◌, ◌^◌, ◌<◌, ◌≤◌, ◌↔◌, sym, ap, ◌∙◌, subst₂, mul-le-mul_right, mul_assoc, add-sub_of_le, mul-pos, le_of_mul-le-mul_right, arith, lit<, pow-add}
use native.Mathlib.Nat.{one-le-pow}
use Rattle.strength.specs.Fraction.{Fraction, ◌over◌, whole, ◌⊖◌, ◌⊗◌, ◌⊘◌, ◌↑◌, ◌≼◌, ◌≈◌, Proper}
use Rattle.strength.specs.Shear.{Wedge, AtMostYield}
use Rattle.wide.proofs.Powers.{mul_pow, square_is}
use Rattle.strength.proofs.Ratios.{≼_trans, ≈-le, ⊗-≈, ↑-≈, ↑-proper}
use Rattle.strength.proofs.Estimates.{PlainWedge}

-- the tenth power of c/q at most w^10/u^10 y^5/g^5 z^5/v^5 δ, with fifth powers drawn together
fold_left : (c u g v : ℕ) → c ^ 10 * (u ^ 10 * g ^ 5 * v ^ 5 * 1) ≡ (c * c * (u * u) * g * v) ^ 5
fold_left c u g v =
    rw (
      mul_pow (c * c * (u * u) * g) v 5,
      mul_pow (c * c * (u * u)) g 5,
      mul_pow (c * c) (u * u) 5,
      mul_pow c c 5,
      mul_pow u u 5,
      pow-add c 5 5,
      pow-add u 5 5,
    ) (omega arith)

fold_right : (w y z δ q : ℕ) → w ^ 10 * y ^ 5 * z ^ 5 * δ * q ^ 10 ≡ (w * w * y * z * (q * q)) ^ 5 * δ
fold_right w y z δ q =
    rw (
      mul_pow (w * w * y * z) (q * q) 5,
      mul_pow (w * w * y) z 5,
      mul_pow (w * w) y 5,
      mul_pow w w 5,
      mul_pow q q 5,
      pow-add w 5 5,
      pow-add q 5 5,
    ) (omega arith)

-- a common factor h within the fifth powers
cancel : (X Y z h δ : ℕ) → 0 < h → ((X * h) ^ 5 ≤ (Y * z * h) ^ 5 * δ) ↔ (X ^ 5 ≤ Y ^ 5 * (z ^ 5 * δ))
cancel X Y z h δ pos = (
  λ l. le_of_mul-le-mul_right {k = h ^ 5} (omega (arith, rw (mul_pow X h 5, mul_pow (Y * z) h 5, mul_pow Y z 5) at l)) (one-le-pow 5 h pos),
  λ l. rw (mul_pow X h 5, mul_pow (Y * z) h 5, mul_pow Y z 5) (omega (arith, mul-le-mul_right (h ^ 5) l)),
)

left_is : (c S : ℕ) → c ^ 10 * (10 ^ 10 * (100 * S) ^ 5 * 10 ^ 5 * 1) ≡ (10 * S * (c * c) * 10000) ^ 5
left_is c S = fold_left c 10 (100 * S) 10 ∙ ap (λ (z : ℕ). z ^ 5) (omega arith)

right_is : (y fu δ : ℕ) → 23 ^ 10 * y ^ 5 * (3 * fu) ^ 5 * δ * 1000 ^ 10 ≡ (529 * y * (300 * fu) * 10000) ^ 5 * δ
right_is y fu δ = fold_right 23 y (3 * fu) δ 1000 ∙ ap (λ (z : ℕ). z ^ 5 * δ) (omega arith)

-- the first test where d f1 f2/(f1 + f2) is y/(100 S)
pub first_plain : (c S y fu d : ℕ) →
    (((c over 1000) ↑ 10) ≼ ((23 over 10) ↑ 10 ⊗ (y over (100 * S)) ↑ 5 ⊗ (3 over 10 ⊗ whole fu) ↑ 5 ⊗ whole d ↑ 13))
    ↔ ((10 * S * (c * c)) ^ 5 ≤ (529 * y) ^ 5 * ((300 * fu) ^ 5 * d ^ 13))
first_plain c S y fu d =
    let e = cancel (10 * S * (c * c)) (529 * y) (300 * fu) 10000 (d ^ 13) (lit< tt) in (
      λ l. e.0 (subst₂ (λ (a b : ℕ). a ≤ b) (left_is c S) (right_is y fu (d ^ 13)) l),
      λ l. subst₂ (λ (a b : ℕ). a ≤ b) (sym (left_is c S)) (sym (right_is y fu (d ^ 13))) (e.1 l),
    )

-- a difference of equal fractions less x: e/(kd q) with e = kn q - x kd
module _ (kn kd kn' kd' c q : ℕ) (e : kn * kd' ≡ kn' * kd) where
  difference : c * kd ≤ kn * q → c * kd' ≤ kn' * q → (kn * q - c * kd) * kd' ≡ (kn' * q - c * kd') * kd
  difference w w' =
      let x : c * kd + (kn * q - c * kd) ≡ kn * q = add-sub_of_le w in
      let x' : c * kd' + (kn' * q - c * kd') ≡ kn' * q = add-sub_of_le w' in
      joined (kn * q - c * kd) (kn' * q - c * kd') x x'
    where
      joined : (a a' : ℕ) → c * kd + a ≡ kn * q → c * kd' + a' ≡ kn' * q → a * kd' ≡ a' * kd
      joined a a' x x' =
          omega (arith, ap (λ (z : ℕ). z * kd') x, ap (λ (z : ℕ). z * kd) x', ap (λ (z : ℕ). z * q) e)

-- equal K and s² make the same wedge
module _ (K K' s s' x : Fraction) (pK : Proper K) (ps : Proper s) (px : Proper x) (eK : K ≈ K') (es : s ≈ s') where
  less-≈ : x ≼ K → x ≼ K' → (K ⊖ x) ≈ (K' ⊖ x)
  less-≈ w w' =
      sym (mul_assoc (K.num * x.den - x.num * K.den) K'.den x.den)
      ∙ ap (λ (z : ℕ). z * x.den) (difference K.num K.den K'.num K'.den x.num x.den eK w w')
      ∙ mul_assoc (K'.num * x.den - x.num * K'.den) K.den x.den

  pub wedge-≈ : Wedge K s x → Wedge K' s' x
  wedge-≈ w =
      let w' : x ≼ K' = ≼_trans x K K' pK w.within (≈-le K K' eK) in
      let old = (K ⊖ x) ↑ 2 ⊗ s in
      let new = (K' ⊖ x) ↑ 2 ⊗ s' in
      record {
        within = w';
        square =
            ≼_trans (x ↑ 2) old new (mul-pos (↑-proper (K ⊖ x) 2 (mul-pos pK px)) ps) w.square
            (≈-le old new
            (⊗-≈ ((K ⊖ x) ↑ 2) ((K' ⊖ x) ↑ 2) s s' (↑-≈ (K ⊖ x) (K' ⊖ x) 2 (less-≈ w.within w')) es));
      }

thousandths : (P D c : ℕ) → c * D ≤ P → P * 1000 - c * (1000 * D) ≡ (P - c * D) * 1000
thousandths P D c w = omega arith

-- the wedge with K = P/(1000 D) and s² = v/S
module _ (P D v S c : ℕ) where
  cleared : c * D ≤ P →
      (c ^ 2 * ((1000 * D * 1000) ^ 2 * S) ≤ (P * 1000 - c * (1000 * D)) ^ 2 * v * 1000 ^ 2)
      ↔ (c * D * (c * D) * S ≤ (P - c * D) * (P - c * D) * v)
  cleared w =
      rw (thousandths P D c w, square_is c, square_is (1000 * D * 1000), square_is ((P - c * D) * 1000))
      (scaled (P - c * D))
    where
      scaled : (e : ℕ) →
          (c * c * (1000 * D * 1000 * (1000 * D * 1000) * S) ≤ e * 1000 * (e * 1000) * v * 1000000)
          ↔ (c * D * (c * D) * S ≤ e * e * v)
      scaled e = (λ l. omega arith, λ l. omega arith)

  pub wedge_plain : Wedge (P over (1000 * D)) (v over S) (c over 1000) ↔ PlainWedge P D v S c
  wedge_plain = (
    λ w.
        let i : c * D ≤ P = omega (arith, w.within) in
        record { within = i; square = (cleared i).0 w.square },
    λ w. record { within = omega (arith, w.within); square = (cleared w.within).1 w.square },
  )

  -- x at most K/2
  pub half_plain : ((c over 1000) ≼ ((P over (1000 * D)) ⊘ whole 2)) ↔ (c * (2 * D) ≤ P)
  half_plain = (λ l. omega arith, λ l. omega arith)

-- the yield moment: x at most M, at m thousandths
to_thousandths : (z : ℕ) → (3 * z) ^ 5 * 1000 ^ 5 ≡ (300 * z) ^ 5 * 10 ^ 5
to_thousandths z =
    sym (mul_pow (3 * z) 1000 5) ∙ ap (λ (y : ℕ). y ^ 5) (omega arith) ∙ mul_pow (300 * z) 10 5

pub yield_plain : (d fu m : ℕ) → AtMostYield d fu (m over 1000) ↔ (m ^ 5 ≤ (300 * fu) ^ 5 * d ^ 13)
yield_plain d fu m = go (m ^ 5) ((3 * fu) ^ 5) ((300 * fu) ^ 5) (d ^ 13) (to_thousandths fu)
  where
    go : (a b e δ : ℕ) → b * 1000000000000000 ≡ e * 100000
        → (a * 100000 ≤ b * δ * 1000000000000000) ↔ (a ≤ e * δ)
    go a b e δ h = (
      λ l. omega (arith, ap (λ (z : ℕ). z * δ) h),
      λ l. omega (arith, ap (λ (z : ℕ). z * δ) h),
    )
