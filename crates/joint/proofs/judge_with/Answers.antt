-- What it makes is the report, and the report meets the claim.
use mathlib.Core.Path.{◌∙◌, ap, subst⁻¹}
use Rattle.joint.specs.Returned.{answered, Passed}
use Rattle.tables.specs.Table.{table_of}
use Rattle.tables.proofs.Loading.{right}
use Rattle.joint.proofs.Claims.{accepted_passed, judged, report_accepted, accepted_outcome, refused_outcome}
use Rattle.joint.proofs.judge_with.Goals as goal

pub judgement-requires : goal.judgement-requires
judgement-requires c =
    let source = c.args.table in
    let a = accepted_outcome _ _ _ c.in-Ok.ensures in
    subst⁻¹ (Passed (table_of source)) a.1 (accepted_passed _ (right source) _ a.0)

pub returns-in-Ok : goal.returns-in-Ok
returns-in-Ok c =
    let source = c.args.table in
    let a = accepted_outcome _ _ _ c.in-Ok.ensures in
    judged (right source) (c.judgement.ensures ∙ ap (answered (table_of source)) a.1 ∙ report_accepted _ _ a.0)

pub returns-in-Err : goal.returns-in-Err
returns-in-Err c = judged (right c.args.table) (refused_outcome _ _ _ c.in-Err.ensures)
