-- By what reading answered and the drill plan's first fault.
use Rattle.joint.proofs.Faults.{drill_given, refused_reading, refused_plan, accepted}
use Rattle.tables.proofs.Loading.{right}
use Rattle.joint.proofs.Tests.{handed_on}
use Rattle.joint.proofs.accept.Goals as goal

pub returns-in_err-values : goal.returns-in_err-values
returns-in_err-values c = rw (handed_on _ c.from_residual.ensures.1) (refused_reading _ _ _ c.in_err-values.ensures)

pub plan_of-requires : goal.plan_of-requires
plan_of-requires c = drill_given _ _ c.in_ok-values.ensures (right c.args.table)

pub returns-in_err-check : goal.returns-in_err-check
returns-in_err-check c = rw (handed_on _ c.from_residual-in_err-check.ensures.1) (refused_plan _ _ c.in_ok-values.ensures _ c.in_err-check.ensures)

pub returns : goal.returns
returns c = accepted _ _ c.in_ok-values.ensures c.in_ok-check.ensures
