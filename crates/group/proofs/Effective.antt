-- Laws of the tests 'not above' and 'not below' an effective number, and of the shares that are not above it.
use Prim.Native.Nat.{ℕ, ◌*◌, ◌^◌, ◌≤◌, ◌<◌}
use mathlib.Core.Path.{◌≡◌, sym, ap, ap₂, ◌∙◌}
use native.Mathlib.Nat.{mul-pos, mul-le-mul, mul-le-mul_left, mul-le-mul_right, le_trans, le_of_lt, lt_of_not-le, le_of_mul-le-mul_left}
use native.Mathlib.Nat.{one-le-pow, pow-le-pow_left}
use lib.Dec.{lit<}
use lib.Pow.{pow-add}
use native.Mathlib.Decide.{dec_le, dec_lt}
use native.Mathlib.Omega.{arith}
use Rattle.strength.specs.Fraction.{Fraction, whole, ◌⊗◌, ◌↑◌, ◌≼◌, Proper}
use Rattle.strength.proofs.Ratios.{≼_trans, ↑-proper, ↑-mono, ⊗-mono}
use Rattle.wide.proofs.Powers.{mul_pow, fifth_is, square_is, pow_le_back}
use Rattle.group.specs.Rows.{NotAbove, NotBelow, share_over}
use Rattle.group.specs.Rows.NotBelow.{all, several}

-- x^20 D y^20 ≤ z^20 D w^20 orders x y and z w
crossed :
    (x y z w D K : ℕ) → 0 < D → x ^ 20 * D * 1 ≤ K * (w ^ 20 * 1) → K * (y ^ 20 * 1) ≤ z ^ 20 * D * 1 → x * y ≤ z * w
crossed x y z w D K p h q =
    pow_le_back (x * y) (z * w) 19
    (le_of_mul-le-mul_left {k = D}
    (rw (mul_pow x y 20, mul_pow z w 20)
    (omega (arith, mul-le-mul_right (y ^ 20) h, mul-le-mul_right (w ^ 20) q)))
    p)

-- what is not above is at most what is not below
pub not_above_not_below :
    (d n a1 : ℕ) (f e : Fraction) → 0 < d → NotAbove d n a1 f → NotBelow d n a1 e → f ≼ e
not_above_not_below d n a1 f e p h (all q) =
    omega (arith, mul-le-mul_right e.den h.number, mul-le-mul_right f.den q)
not_above_not_below d n a1 f e p h (several m q) =
    crossed f.num e.den e.num f.den ((130 * d) ^ 5) (n ^ 18 * a1 ^ 5)
    (one-le-pow 5 (130 * d) (omega arith)) (h.several m) q

-- what is above is not below
pub above_not_below : (d n a1 : ℕ) (f : Fraction) → (NotAbove d n a1 f → ⊥) → NotBelow d n a1 f
above_not_below d n a1 f h = by_number (dec_le _ _)
  where
    by_power :
        f ≼ whole n → 1 < n → Dec ((f ↑ 20) ⊗ whole ((130 * d) ^ 5) ≼ whole (n ^ 18 * a1 ^ 5)) → NotBelow d n a1 f
    by_power l m (yes q) = absurd (h (record { number = l; several = λ _. q }))
    by_power l m (no q) = several m (le_of_lt (lt_of_not-le q))

    by_several : f ≼ whole n → Dec (1 < n) → NotBelow d n a1 f
    by_several l (yes m) = by_power l m (dec_le _ _)
    by_several l (no m) = absurd (h (record { number = l; several = λ p. absurd (m p) }))

    by_number : Dec (f ≼ whole n) → NotBelow d n a1 f
    by_number (yes l) = by_several l (dec_lt 1 n)
    by_number (no l) = all (le_of_lt (lt_of_not-le l))

-- what is less than a number that is not above it is not above it
pub not_above_falls : (d n a1 : ℕ) (x y : Fraction) → Proper y → x ≼ y → NotAbove d n a1 y → NotAbove d n a1 x
not_above_falls d n a1 x y py h l = record {
  number = ≼_trans x y (whole n) py h l.number;
  several = λ k.
      ≼_trans ((x ↑ 20) ⊗ whole ((130 * d) ^ 5)) ((y ↑ 20) ⊗ whole ((130 * d) ^ 5)) (whole (n ^ 18 * a1 ^ 5))
      (mul-pos (↑-proper y 20 py) (lit< tt)) (⊗-mono (x ↑ 20) (y ↑ 20) (whole ((130 * d) ^ 5)) (↑-mono x y 20 h)) (l.several k);
}

-- ---- shares of rows
-- e n/10,000 to the power of 20, with n^18 taken out of both sides
powers : (e n D : ℕ) → (e * n) ^ 20 * D * 1 ≡ n ^ 18 * ((e ^ 4) ^ 5 * (D * (n * n)))
powers e n D =
    let p : (e * n) ^ 20 ≡ (e ^ 4) ^ 5 * (n ^ 18 * (n * n)) =
    mul_pow e n 20 ∙ ap₂ ◌*◌ (sym (twenty e)) (pow-add n 18 2 ∙ ap (λ z. n ^ 18 * z) (square_is n)) in
    rw p (omega arith)
  where
    twenty : (e : ℕ) → (e ^ 4) ^ 5 ≡ e ^ 20
    twenty e = rw (← (fifth_is (e ^ 4)), pow-add e 16 4, pow-add e 8 8, pow-add e 4 4)

pub cleared : (e n D A T : ℕ) → (e ^ 4) ^ 5 * (D * (n * n)) ≤ T * A → (e * n) ^ 20 * D * 1 ≤ n ^ 18 * A * (T * 1)
cleared e n D A T h = rw (powers e n D) (omega (arith, mul-le-mul_left (n ^ 18) h))

pub cancelled :
    (e n D A T : ℕ) → 0 < n → (e * n) ^ 20 * D * 1 ≤ n ^ 18 * A * (T * 1) → (e ^ 4) ^ 5 * (D * (n * n)) ≤ T * A
cancelled e n D A T p h =
    le_of_mul-le-mul_left {k = n ^ 18} (omega (arith, powers e n D, h)) (one-le-pow 18 n p)

-- more dowels and a smaller a1 never pass more: a share that is not above in a row is not above in one that is no longer and no closer
pub not_above_eased :
    (d n n' a1 a1' e : ℕ) → 1 ≤ n' → n ≤ n' → (1 < n → a1' ≤ a1) → NotAbove d n' a1' (share_over e n') → NotAbove d n a1 (share_over e n)
not_above_eased d n n' a1 a1' e some h near q = record {
  number =
      let top : e ≤ 10000 = le_of_mul-le-mul_left {k = n'} (omega (arith, q.number)) some in omega (arith, mul-le-mul_right n top);
  several = λ p.
      cleared e n ((130 * d) ^ 5) (a1 ^ 5) (10000 ^ 20)
      (le_trans (mul-le-mul_left ((e ^ 4) ^ 5) (mul-le-mul_left ((130 * d) ^ 5) (mul-le-mul h h)))
      (le_trans (cancelled e n' ((130 * d) ^ 5) (a1' ^ 5) (10000 ^ 20) some (q.several (omega (arith, p, h))))
      (mul-le-mul_left (10000 ^ 20) (pow-le-pow_left (near p) 5))));
}
