use mathlib.Core.Path.{◌≡◌}
use Rattle.joint.specs.Layout.{column}
use Rattle.joint.specs.Stage.{eighths}
use Rattle.joint.proofs.parts.put_column.Given as goal

abbrev pub invariant-loop-i : goal.invariant-loop-i
invariant-loop-i l = l.l ≡ column (eighths l.part l.at) l.i
