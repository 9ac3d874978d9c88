-- No part passed is of the kind.
use mathlib.Core.Path.{◌∙◌}
use native.Mathlib.Omega.{arith}
use Rattle.joint.proofs.Stages.{part_found, part_nowhere}
use Rattle.joint.proofs.layout.find_part.Goals as goal

pub returns-then-bytes-start : goal.returns-then-bytes-start
returns-then-bytes-start c = part_found c.requires c.loop-k-test.true c.loop-k.invariant (c.if-bytes-start.true ∙ c.code.ensures)

pub returns : goal.returns
returns c = part_nowhere c.requires (λ j l. c.loop-k.invariant j (omega arith))
