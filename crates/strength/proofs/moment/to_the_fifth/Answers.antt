-- Each product in 64 bits is bounded by its factors; (300 fu)^5 d^13 is the square of (300 fu)^2 d^5 times 300 fu d^3.
use Rattle.std.proofs.Common.{◌≡◌, ℕ, ◌*◌, ◌^◌, ◌<◌, ◌≤◌, refl, ap, ◌∙◌, lt_of_lt_of_le, lt_of_le_of_lt, mul-le-mul, pow-suc, arith, lit<, lit≤, pow-add}
use native.Mathlib.Nat.{pow-zero}
use Rattle.wide.proofs.Bits.{product_bits, product_fits}
use Rattle.strength.specs.Shear.{DowelWithin}
use Rattle.strength.specs.Working.{yield_to_the_fifth}
use Rattle.wide.proofs.Powers.{fifth_is}
use Rattle.strength.proofs.moment.to_the_fifth.Goals as goal

module _ {d fu : ℕ} (w : DowelWithin d fu) where
  b : 300 * fu ≤ 240000
  b = omega (arith, w.steel_high)

  d2 : d * d ≤ 900
  d2 = mul-le-mul w.diameter_high w.diameter_high

  x1 : 300 * fu * (300 * fu) ≤ 57600000000
  x1 = mul-le-mul b b

  x2 : 300 * fu * (300 * fu) * (d * d) ≤ 51840000000000
  x2 = mul-le-mul x1 d2

  x3 : 300 * fu * (300 * fu) * (d * d) * (d * d) ≤ 46656000000000000
  x3 = mul-le-mul x2 d2

  x4 : 300 * fu * (300 * fu) * (d * d) * (d * d) * d < 2 ^ 61
  x4 = lt_of_le_of_lt (mul-le-mul x3 w.diameter_high) (lit< tt)

  y1 : 300 * fu * (d * d) ≤ 216000000
  y1 = mul-le-mul b d2

  y2 : 300 * fu * (d * d) * d < 2 ^ 33
  y2 = lt_of_le_of_lt (mul-le-mul y1 w.diameter_high) (lit< tt)

thirteen : (d : ℕ) → d * d * (d * d) * d * (d * d * (d * d) * d) * (d * d * d) ≡ d ^ 13
thirteen d =
    rw (pow-add d 10 3, pow-add d 5 5, ← (fifth_is d), pow-suc d 2, pow-suc d 1, pow-suc d 0, pow-zero d) (omega arith)

gathered : (n s x d fu : ℕ) → n ≡ s * (300 * fu * (d * d) * d) → s ≡ x * x → x ≡ 300 * fu * (300 * fu) * (d * d) * (d * d) * d
    → n ≡ yield_to_the_fifth d fu
gathered n s x d fu en es ex =
    rw (← (fifth_is (300 * fu)), ← (thirteen d)) (en ∙ ap (λ (z : ℕ). z * (300 * fu * (d * d) * d)) (es ∙ ap (λ (z : ℕ). z * z) ex) ∙ again (300 * fu) d)
  where
    again : (b d : ℕ) → b * b * (d * d) * (d * d) * d * (b * b * (d * d) * (d * d) * d) * (b * (d * d) * d)
        ≡ b * b * (b * b) * b * (d * d * (d * d) * d * (d * d * (d * d) * d) * (d * d * d))
    again b d = omega arith

pub overflow_mul-x-2 : goal.overflow_mul-x-2
overflow_mul-x-2 c = record { fits = lt_of_le_of_lt (x2 c.requires) (lit< tt) }

pub overflow_mul-x-3 : goal.overflow_mul-x-3
overflow_mul-x-3 c = record { fits = lt_of_le_of_lt (x3 c.requires) (lit< tt) }

pub overflow_mul-x-4 : goal.overflow_mul-x-4
overflow_mul-x-4 c = record { fits = lt_of_lt_of_le (x4 c.requires) (lit≤ tt) }

pub times_u64-requires : goal.times_u64-requires
times_u64-requires c = product_fits 122 33 5 (rw c.product_u64-square.ensures (product_bits 61 61 (x4 c.requires) (x4 c.requires))) (y2 c.requires) tt tt

pub returns : goal.returns
returns c = gathered _ _ _ _ _ c.times_u64.ensures c.product_u64-square.ensures refl
