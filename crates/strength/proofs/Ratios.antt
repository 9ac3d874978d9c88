-- Laws of nonnegative fractions: equal fractions, order, powers. A denominator is cancelled only where it is above 0.
use Rattle.std.proofs.Common.{ℕ, ◌*◌, ◌^◌, ◌<◌, ap, mul-le-mul_right, mul-pos, le_of_mul-le-mul_right, arith}
use native.Mathlib.Nat.{pow-le-pow_left, one-le-pow, eq_of_mul-eq-mul_right}
use Rattle.strength.specs.Fraction.{Fraction, ◌⊕◌, ◌⊗◌, ◌⊘◌, ◌↑◌, ◌≼◌, ◌≈◌, Proper}
use Rattle.wide.proofs.Powers.{mul_pow}

-- order
pub ≼_trans : (a b c : Fraction) → Proper b → a ≼ b → b ≼ c → a ≼ c
≼_trans a b c pb h g =
    le_of_mul-le-mul_right {k = b.den} (omega (arith, mul-le-mul_right c.den h, mul-le-mul_right a.den g)) pb

pub ≈-le : (a b : Fraction) → a ≈ b → a ≼ b
≈-le a b e = omega arith

pub ≈-trans : (a b c : Fraction) → Proper b → a ≈ b → b ≈ c → a ≈ c
≈-trans a b c pb h g =
    eq_of_mul-eq-mul_right b.den pb _ _
    (omega (arith, ap (λ (z : ℕ). z * c.den) h, ap (λ (z : ℕ). z * a.den) g))

pub ↑-mono : (a b : Fraction) (k : ℕ) → a ≼ b → (a ↑ k) ≼ (b ↑ k)
↑-mono a b k h =
    rw (← (mul_pow a.num b.den k), ← (mul_pow b.num a.den k)) (pow-le-pow_left h k)

pub ⊗-mono : (a b c : Fraction) → a ≼ b → (a ⊗ c) ≼ (b ⊗ c)
⊗-mono a b c h = omega (arith, mul-le-mul_right (c.num * c.den) h)

-- equal fractions make equal sums, products, quotients, powers
pub ⊕-≈ : (a b c d : Fraction) → a ≈ b → c ≈ d → (a ⊕ c) ≈ (b ⊕ d)
⊕-≈ a b c d e f =
    omega (arith, ap (λ (z : ℕ). z * (c.den * d.den)) e, ap (λ (z : ℕ). z * (a.den * b.den)) f)

pub ⊗-≈ : (a b c d : Fraction) → a ≈ b → c ≈ d → (a ⊗ c) ≈ (b ⊗ d)
⊗-≈ a b c d e f =
    omega (arith, ap (λ (z : ℕ). z * (c.num * d.den)) e, ap (λ (z : ℕ). z * (b.num * a.den)) f)

pub ⊘-≈ : (a b c d : Fraction) → a ≈ b → c ≈ d → (a ⊘ c) ≈ (b ⊘ d)
⊘-≈ a b c d e f =
    omega (arith, ap (λ (z : ℕ). z * (c.den * d.num)) e, ap (λ (z : ℕ). z * (b.num * a.den)) f)

pub ↑-≈ : (a b : Fraction) (k : ℕ) → a ≈ b → (a ↑ k) ≈ (b ↑ k)
↑-≈ a b k e = rw (← (mul_pow a.num b.den k), ← (mul_pow b.num a.den k)) (ap (λ (z : ℕ). z ^ k) e)

-- a power of a proper fraction is proper
pub ↑-proper : (a : Fraction) (k : ℕ) → Proper a → Proper (a ↑ k)
↑-proper a k p = one-le-pow k a.den p

-- above 0, numerator and denominator
pub record Positive (a : Fraction) : Type 0 where
  pub num : 0 < a.num
  pub den : 0 < a.den

pub ⊕-positive : {a b : Fraction} → Positive a → Positive b → Positive (a ⊕ b)
⊕-positive p q = record { num = omega (arith, mul-pos p.num q.den); den = mul-pos p.den q.den }

pub ⊗-positive : {a b : Fraction} → Positive a → Positive b → Positive (a ⊗ b)
⊗-positive p q = record { num = mul-pos p.num q.num; den = mul-pos p.den q.den }

pub ⊘-positive : {a b : Fraction} → Positive a → Positive b → Positive (a ⊘ b)
⊘-positive p q = record { num = mul-pos p.num q.den; den = mul-pos p.den q.num }

pub ↑-positive : {a : Fraction} (k : ℕ) → Positive a → Positive (a ↑ k)
↑-positive {a} k p = record { num = one-le-pow k a.num p.num; den = one-le-pow k a.den p.den }
