-- What fits: the value of so many limbs is below their weight, and sums and products of such values fit limbs enough.
use Prim.Native.Nat.{ℕ, ◌+◌, ◌-◌, ◌*◌, ◌^◌, ◌<◌, ◌≤◌}
use mathlib.Core.Path.{◌≡◌, ap, ◌∙◌}
use mathlib.Core.List.{List}
use native.Mathlib.Nat.{mul-le-mul}
use native.Mathlib.Omega.{arith}
use lib.ListN.{length, get_or}
use lib.Pow.{pow-add}
use mir.Val.{Fits}
use mir.Syntax.{w32}
use Rattle.wide.specs.Natural.{value, weight}
use Rattle.wide.proofs.Limbs.{value_below}
use Rattle.wide.proofs.Bits.{weight_bits, fits_limbs, sum_bits, more_bits, product_bits}

-- each element is a limb: what a slice of u32 is known to be
abbrev pub Limbs : List ℕ → Type 0
Limbs l = (i : ℕ) → Fits w32 (get_or l i 0)

-- a slice of zeros is as long as they are, and 0
pub lent : {items : List ℕ} {n : ℕ} (s : List ℕ) → s ≡ items → (value items ≡ 0) × (length items ≡ n) → (value s ≡ 0) × (length s ≡ n)
lent s e h = (ap value e ∙ h.0, ap length e ∙ h.1)

pub below : (l : List ℕ) → Limbs l → value l < weight l
below l h = value_below l (λ i. (h i).fits)

pub own_bits : (l : List ℕ) → Limbs l → value l < 2 ^ (32 * length l)
own_bits l h = rw (weight_bits l) at (below l h)

pub slice_bits : (l : List ℕ) (n : ℕ) → Limbs l → length l ≤ n → value l < 2 ^ (32 * n)
slice_bits l n h e = more_bits (32 * length l) (32 * n) (own_bits l h) (omega arith)

-- a product in limbs that held 0
pub room_product : (s : List ℕ) (j k : ℕ) {x y : ℕ} → value s ≡ 0 → x < 2 ^ j → y < 2 ^ k → j + k ≤ 32 * length s → value s + x * y < weight s
room_product s j k none hx hy e = omega (arith, fits_limbs (j + k) s (product_bits j k hx hy) e)

-- a sum in limbs one more
pub room_sum : (s a b : List ℕ) → Limbs a → Limbs b → length a < length s → length b < length s → value a + value b < weight s
room_sum s a b ha hb la lb =
    fits_limbs (32 * (length s - 1) + 1) s
    (sum_bits (32 * (length s - 1)) (slice_bits a (length s - 1) ha (omega arith)) (slice_bits b (length s - 1) hb (omega arith)))
    (omega arith)

weight_both : (s a b : List ℕ) → length s ≡ length a + length b → weight s ≡ weight a * weight b
weight_both s a b e =
    weight_bits s ∙ ap (λ (k : ℕ). 2 ^ k) (omega arith) ∙ pow-add 2 (32 * length a) (32 * length b) ∙ rw (weight_bits a, weight_bits b)

-- a product and both factors, in as many limbs as the factors have together
pub room_both : (s a b : List ℕ) → Limbs a → Limbs b → length s ≡ length a + length b → value a * value b + value b + value a < weight s
room_both s a b ha hb e =
    omega (arith, weight_both s a b e, mul-le-mul {n₁ = value a + 1} {m₁ = value b + 1} {n₂ = weight a} {m₂ = weight b} (omega (arith, below a ha)) (omega (arith, below b hb)))
