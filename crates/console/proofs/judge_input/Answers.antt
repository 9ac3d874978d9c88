-- Too long, or judged from the first bytes; a count beyond the buffer means the whole buffer.
use Rattle.std.proofs.Common.{◌∙◌, ap, refl, take}
use Rattle.std.proofs.lemmas.List.{take_min}
use Rattle.tables.specs.Table.{printed}
use Rattle.joint.specs.Returned.{report_of}
use Rattle.console.proofs.Inputs.{both, input_long, input_judged}
use Rattle.console.proofs.judge_input.Goals as goal

pub returns-then-more : goal.returns-then-more
returns-then-more c =
    let a = c.args in
    both a.buffer.now a.count a.more _ (input_long a.buffer.now a.count a.more _ c.if-more.true refl)

pub returns : goal.returns
returns c =
    let a = c.args in
    let first = ap (λ n. take n a.buffer.now) c.min.ensures ∙ take_min a.count a.buffer.now in
    both a.buffer.now a.count a.more _
    (input_judged a.buffer.now a.count a.more _ c.if-more.false (c.judge.ensures.is ∙ ap (report_of printed) first))
