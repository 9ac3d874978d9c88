-- The verdict at the view is the member's.
use mathlib.Core.Path.{ap, ◌∙◌}
use Rattle.spacing.specs.declared.view.View.{View}
use Rattle.spacing.specs.Verdict.{number_of, verdict_in, member_verdict}
use Rattle.spacing.proofs.verdict.viewed.Goals as goal

pub returns : goal.returns
unfolding member_verdict
returns c = let k = c.args in
    let p = k.plan in
    c.verdict.ensures
    ∙ ap (λ (w : View). verdict_in k.rule (number_of k.which) w.frame p.diameter w.along w.across p.count) c.view.ensures
