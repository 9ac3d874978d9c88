-- The numerator has 103 bits, the divisor 75, and their quotient is that of the definition.
use Rattle.std.proofs.Common.{◌≡◌, ℕ, ◌*◌, ◌/◌, ◌∙◌, ap₂, arith}
use Rattle.strength.specs.Working.{half_of}
use Rattle.strength.proofs.Room.{divided_is}
use Rattle.strength.proofs.load.Load.half.Goals as goal

quotient : (force num den a b : ℕ) → a ≡ num * force → b ≡ den * 2 → a / b ≡ half_of (force * num) den
unfolding half_of
quotient force num den a b ea eb = ap₂ (λ (x y : ℕ). x / y) (ea ∙ omega arith) (eb ∙ omega arith)

pub returns : goal.returns
returns c = divided_is c.quotient.ensures
    ∙ quotient _ _ _ _ _ c.times_u64-a.ensures c.times_u64-b.ensures
