-- The first dowel that has a partner makes the first pair.
use native.Mathlib.Omega.{arith}
use Rattle.spacing.proofs.Search.{pair_is, none_is}
use Rattle.spacing.proofs.view.Measured.first_close.Goals as goal

pub returns-in-Some : goal.returns-in-Some
returns-in-Some c = pair_is _ _ _ _ (omega arith) c.loop-i.invariant c.in-Some.ensures

pub returns : goal.returns
returns c = none_is _ _ (λ k h. c.loop-i.invariant k (omega arith))
