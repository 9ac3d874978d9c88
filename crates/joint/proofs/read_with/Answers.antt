-- By what the table's loading and the stages of reading answered.
use mathlib.Core.Path.{◌∙◌, ap, sym}
use Rattle.std.specs.Prelude.{Err}
use Rattle.tables.specs.Told.{told as table_told}
use Rattle.tables.proofs.Loading.{right}
use Rattle.joint.specs.declared.Values.{Values}
use Rattle.joint.specs.declared.refusals.Unread.{Unread}
use Rattle.joint.specs.Refusal.{zero_values}
use Rattle.joint.specs.Told.{reading, refusal_in}
use Rattle.joint.proofs.Faults.{refused_table, refused_layout, refused_values, read_whole}
use Rattle.joint.proofs.Stages.{laid_out}
use Rattle.joint.proofs.read_with.Goals as goal

pub returns-in_default : goal.returns-in_default
returns-in_default c =
    ap (λ (u : Unread). reading (Err u)) c.into.ensures
    ∙ refused_table _ _ _ (ap table_told (sym c.unwrap_err.ensures) ∙ c.load-loaded.ensures)

pub returns-in_default-layout : goal.returns-in_default-layout
returns-in_default-layout c =
    ap (λ (u : Unread). reading (Err u)) c.into-in_default-layout.ensures
    ∙ refused_layout _ _ (right c.args.table) c.in-Ok.ensures _
    (ap refusal_in (sym c.unwrap_err-in_default-layout.ensures) ∙ c.read_layout-layout.ensures.number)

pub put_values-requires-clause-laid : goal.put_values-requires-clause-laid
put_values-requires-clause-laid c = laid_out _ c.in-Ok-layout.ensures.number c.in-Ok-layout.ensures.parts

pub put_values-requires-clause-zeros : goal.put_values-requires-clause-zeros
unfolding zero_values
put_values-requires-clause-zeros c = ap (λ (v : Values). v.positions) c.nothing-values.ensures

pub returns-in_default-limits : goal.returns-in_default-limits
returns-in_default-limits c =
    ap (λ (u : Unread). reading (Err u)) c.into-in_default-limits.ensures
    ∙ refused_values _ _ (right c.args.table) c.in-Ok.ensures c.in-Ok-layout.ensures.number c.put_values.ensures _
    (ap refusal_in (sym c.unwrap_err-in_default-limits.ensures) ∙ c.check_values-limits.ensures)

pub returns : goal.returns
returns c = read_whole _ _ (right c.args.table) c.in-Ok.ensures c.in-Ok-layout.ensures.number c.put_values.ensures c.in-Ok-limits.ensures
