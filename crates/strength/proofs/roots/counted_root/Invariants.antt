-- The bracket is kept as what a test of its middle takes; a quarter of the square is left each time.
use Rattle.strength.proofs.Narrow.{Search}
use Rattle.strength.proofs.roots.counted_root.Given as goal

abbrev pub invariant-loop-square : goal.invariant-loop-square
invariant-loop-square l = Search l.fn.n l.above l.needed l.square l.halvings

abbrev pub decreases-loop-square : goal.decreases-loop-square
decreases-loop-square l = l.square
