-- The view is the member's.
use mathlib.Core.Path.{◌∙◌, subst}
use Rattle.spacing.specs.declared.view.View.{View}
use Rattle.spacing.proofs.Integers.{small_read}
use Rattle.spacing.proofs.Faults.{view_force, view_components}
use Rattle.group.specs.Rows.{reach_of}
use Rattle.group.specs.Share.{MemberShared}
use Rattle.group.proofs.member.one_taken.Goals as goal

pub returns : goal.returns
returns c = let v = c.args in
    let p = v.plan in
    let e = c.view-view.ensures in
    let small = (view_components v.which _ v.m p.fx p.fy _ _ _ e p.given.force).x_small in
    record {
      force =
          (rw (small_read c.view-view.result.frame.force small) at c.unsigned_abs.ensures.value)
          ∙ view_force v.which v.m p.fx p.fy _ _ _ e;
      share =
          subst (λ (w : View). MemberShared p.diameter (reach_of p.diameter) w.along w.across p.count c.member_share.result) e
          c.member_share.ensures;
    }
