-- Each return by the law of its test.
use mathlib.Core.Path.{◌∙◌, sym}
use Rattle.tables.proofs.Loading.{right}
use Rattle.joint.proofs.Tests.{handed_on, lacked}
use Rattle.writer.proofs.Steps.{table_refused, version_refused, lists_differ, lists_long, fields_refused, values_refused, buffer_refused, put_given, written}
use Rattle.writer.proofs.write_with.Goals as goal
use Rattle.writer.proofs.write_with.Goals.{then-differ-via-then-differ, then-differ-via-else-differ+then-too_many}

pub returns-in_err-load : goal.returns-in_err-load
returns-in_err-load c = rw (handed_on _ c.from_residual.ensures.1) (table_refused _ _ _ _ _ _ c.in_err-load.ensures)

pub returns-in_err-version : goal.returns-in_err-version
returns-in_err-version c =
    let n = lacked c.in_err-version.ensures.value c.known_version.ensures in
    rw (handed_on _ c.from_residual-in_err-version.ensures.1, n.1)
    (version_refused _ _ _ _ _ (right c.args.table) c.in_ok-load.ensures n.0)

pub returns-then-differ : goal.returns-then-differ
returns-then-differ c =
    let known = sym c.in_ok-version.ensures.ok_part ∙ c.known_version.ensures in
    rw c.into.ensures
    (elim c.then-differ.branch [
      | then-differ-via-then-differ w ↦ lists_differ _ _ _ _ _ (right c.args.table) c.in_ok-load.ensures known w.if-differ.true
      | then-differ-via-else-differ+then-too_many w ↦
          lists_long _ _ _ _ _ (right c.args.table) c.in_ok-load.ensures known w.if-too_many.true
    ])

pub returns-in_err-values : goal.returns-in_err-values
returns-in_err-values c =
    let known = sym c.in_ok-version.ensures.ok_part ∙ c.known_version.ensures in
    let n = lacked c.in_err-values.ensures.value c.values_from.ensures in
    rw (handed_on _ c.from_residual-in_err-values.ensures.1, n.1)
    (fields_refused _ _ _ _ _ (right c.args.table) c.in_ok-load.ensures known n.0)

pub returns-in_err-checked : goal.returns-in_err-checked
returns-in_err-checked c =
    let known = sym c.in_ok-version.ensures.ok_part ∙ c.known_version.ensures in
    let fitted = sym c.in_ok-values.ensures.ok_part ∙ c.values_from.ensures in
    rw (handed_on _ c.from_residual-in_err-checked.ensures.1)
    (values_refused _ _ _ _ _ (right c.args.table) c.in_ok-load.ensures known c.if-differ.false c.if-too_many.false fitted _
    c.in_err-checked.ensures)

pub returns-then-buffer-length : goal.returns-then-buffer-length
returns-then-buffer-length c =
    let known = sym c.in_ok-version.ensures.ok_part ∙ c.known_version.ensures in
    let fitted = sym c.in_ok-values.ensures.ok_part ∙ c.values_from.ensures in
    buffer_refused _ _ _ _ _ (right c.args.table) c.in_ok-load.ensures known c.if-differ.false c.if-too_many.false fitted
    c.in_ok-checked.ensures c.if-buffer-length.true

pub put_record-requires : goal.put_record-requires
put_record-requires c =
    let known = sym c.in_ok-version.ensures.ok_part ∙ c.known_version.ensures in
    let fitted = sym c.in_ok-values.ensures.ok_part ∙ c.values_from.ensures in
    put_given _ _ _ _ _ (right c.args.table) c.in_ok-load.ensures known c.if-differ.false c.if-too_many.false fitted
    c.in_ok-checked.ensures c.if-buffer-length.false

pub returns : goal.returns
returns c =
    let known = sym c.in_ok-version.ensures.ok_part ∙ c.known_version.ensures in
    let fitted = sym c.in_ok-values.ensures.ok_part ∙ c.values_from.ensures in
    written _ _ _ _ _ (right c.args.table) c.in_ok-load.ensures known c.if-differ.false c.if-too_many.false fitted
    c.in_ok-checked.ensures c.if-buffer-length.false c.put_record.ensures
