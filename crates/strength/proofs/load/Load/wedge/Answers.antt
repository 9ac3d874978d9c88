-- The numerator has 133 bits, the divisor 105, and their quotient is that of the definition.
use Rattle.std.proofs.Common.{◌≡◌, ℕ, ◌+◌, ◌*◌, ◌/◌, ◌∙◌, ap₂, arith}
use Rattle.strength.specs.Working.{wedge_of}
use Rattle.strength.proofs.Room.{divided_is}
use Rattle.strength.proofs.load.Load.wedge.Goals as goal

quotient : (force num den root a b : ℕ) → a ≡ num * (force * root) → b ≡ den * (1073741824 + root) → a / b ≡ wedge_of (force * num) den root
unfolding wedge_of
quotient force num den root a b ea eb = ap₂ (λ (x y : ℕ). x / y) (ea ∙ omega arith) eb

pub returns : goal.returns
returns c = divided_is c.quotient.ensures
    ∙ quotient _ _ _ _ _ _ c.times_u64-a.ensures c.times_u64-b.ensures
