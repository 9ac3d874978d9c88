-- The search begins at the starting bracket; each halving keeps what its middle's test takes; at the end the bracket is 1 wide.
use Rattle.std.proofs.Common.{arith}
use Rattle.strength.proofs.Narrow.{begin, fits, step_up, step_down, whole, counted}
use Rattle.strength.proofs.roots.counted_root.Goals as goal
use Rattle.strength.proofs.roots.counted_root.Goals.{then-above-needed, else-above-needed}

pub loop-square-init : goal.loop-square-init
loop-square-init c = begin _ c.ranges.n.fits _ c.starting_bracket-start.ensures

pub overflow_add-needed : goal.overflow_add-needed
overflow_add-needed c = record { fits = fits _ _ _ _ _ (begin _ c.ranges.n.fits _ c.starting_bracket-start.ensures) }

pub overflow_add-halvings : goal.overflow_add-halvings
overflow_add-halvings c = let s = c.loop-square.invariant.2 in record { fits = omega (arith, s.few) }

pub loop-square-preserved : goal.loop-square-preserved
loop-square-preserved c = let s = c.loop-square.invariant.2 in
    elim c.if-above-needed.branch [
      | then-above-needed w ↦ rw (w.above-is, w.needed-is) (step_down _ _ _ _ _ _ _ s c.loop-square-test.true w.if-above-needed.true)
      | else-above-needed w ↦ rw (w.above-is, w.needed-is) (step_up _ _ _ _ _ _ _ s c.loop-square-test.true w.if-above-needed.false)
    ]

pub returns-clause-near : goal.returns-clause-near
returns-clause-near c = whole _ _ _ (counted _ _ _ _ _ c.loop-square.invariant c.loop-square-test.false)

pub returns-clause-counted : goal.returns-clause-counted
returns-clause-counted c = counted _ _ _ _ _ c.loop-square.invariant c.loop-square-test.false
