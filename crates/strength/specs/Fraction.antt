-- Nonnegative fractions, and no more of them than 01's formulas want. n over 0 is no number: `Proper` says that it is not met.
use Rattle.std.specs.Prelude.{◌≡◌, ℕ, ◌+◌, ◌-◌, ◌*◌, ◌^◌, ◌<◌, ◌≤◌}

pub record Fraction : Type 0 where
  pub num : ℕ
  pub den : ℕ

infix 75 ◌over◌
infixl 70 ◌⊗◌ ◌⊘◌
infixl 65 ◌⊕◌ ◌⊖◌
infix 72 ◌↑◌
infix 40 ◌≼◌ ◌≈◌
abbrev pub ◌over◌ : ℕ → ℕ → Fraction
n over d = record { num = n; den = d }

abbrev pub whole : ℕ → Fraction
whole n = n over 1

abbrev pub ◌⊕◌ : Fraction → Fraction → Fraction
a ⊕ b = (a.num * b.den + b.num * a.den) over (a.den * b.den)

-- a less b, where b is at most a
abbrev pub ◌⊖◌ : Fraction → Fraction → Fraction
a ⊖ b = (a.num * b.den - b.num * a.den) over (a.den * b.den)

abbrev pub ◌⊗◌ : Fraction → Fraction → Fraction
a ⊗ b = (a.num * b.num) over (a.den * b.den)

-- a divided by b, where b is above 0
abbrev pub ◌⊘◌ : Fraction → Fraction → Fraction
a ⊘ b = (a.num * b.den) over (a.den * b.num)

abbrev pub ◌↑◌ : Fraction → ℕ → Fraction
a ↑ k = (a.num ^ k) over (a.den ^ k)

-- a is at most b
abbrev pub ◌≼◌ : Fraction → Fraction → Type 0
a ≼ b = a.num * b.den ≤ b.num * a.den

-- a and b are one number
abbrev pub ◌≈◌ : Fraction → Fraction → Type 0
a ≈ b = a.num * b.den ≡ b.num * a.den

abbrev pub Proper : Fraction → Type 0
Proper a = 0 < a.den
