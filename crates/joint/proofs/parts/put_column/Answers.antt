-- The places passed hold the definition's numbers; past place 64 nothing is kept.
use mathlib.Core.Path.{◌∙◌, ◌≡◌, sym}
use native.Mathlib.Omega.{arith}
use Rattle.joint.proofs.Columns.{column_more, column_none, column_places}
use Rattle.joint.proofs.Tests.{from_bits}
use Rattle.joint.specs.Stage.{eighths}
use Rattle.joint.proofs.parts.put_column.Goals as goal

pub loop-i-init : goal.loop-i-init
loop-i-init c = c.requires.zeros ∙ sym (column_none (eighths c.args.part.now c.args.at))

pub loop-i-preserved : goal.loop-i-preserved
loop-i-preserved c = let a = c.args in
    let l = c.loop-i in
    simp (l.invariant, column_more (eighths a.part.now a.at) l.i, from_bits c.i32_at.ensures c.i32_at.type_inv)

pub returns : goal.returns
returns c = let a = c.args in
    let e : c.loop-i.i ≡ c.min-i-end.result = omega arith in
    c.loop-i.invariant ∙ rw (e, c.min-i-end.ensures) (column_places (eighths a.part.now a.at) a.n)
