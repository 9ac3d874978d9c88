use Rattle.std.proofs.Common.{length}
use Rattle.spacing_run.proofs.joints.Given as goal

abbrev pub decreases-loop-rest : goal.decreases-loop-rest
decreases-loop-rest l = length l.rest
