-- The demand is the record's.
use native.Mathlib.Omega.{arith}
use mathlib.Core.Path.{◌≡◌, ◌∙◌, ap, ap₂, subst⁻¹}
use Rattle.group.specs.declared.member.Both.{Both}
use Rattle.joint.specs.Returned.{demand_in, demand_of, report_with, answered, DemandWithin}
use Rattle.tables.specs.Table.{table_of}
use Rattle.joint.specs.Told.{demand_told}
use Rattle.joint.proofs.Answers.{plane, within}
use Rattle.joint.proofs.figures.judgement.Goals as goal

pub demand_of-requires : goal.demand_of-requires
demand_of-requires c =
    let t = table_of c.args.table in
    let v = c.args.v.now in
    let w = within t v c.requires in
    let first = ap (λ (r : Both). r.member1.along) c.taken_of-taken.ensures in
    let second = ap (λ (r : Both). r.member2.along) c.taken_of-taken.ensures in
    record {
      plane = record {
        member1 = first;
        member2 = second;
        small1 = omega (arith, w.row1.along_high, first);
        small2 = omega (arith, w.row2.along_high, second);
        force = c.requires.given.force;
        plane = plane t v c.requires;
      };
      most = c.requires.given.most;
      within = subst⁻¹ DemandWithin (ap (demand_in t v.members v.dowel v.loads v.positions.n) c.taken_of-taken.ensures) w;
    }

pub returns : goal.returns
unfolding answered
returns c =
    let t = table_of c.args.table in
    let v = c.args.v.now in
    let demand_is : demand_told c.demand_of.result ≡ demand_of t v =
    c.demand_of.ensures ∙ ap (demand_in t v.members v.dowel v.loads v.positions.n) c.taken_of-taken.ensures in
    c.judgement_of.ensures ∙ ap₂ report_with (demand_is) (ap (λ (b : Both). b.share) c.taken_of-taken.ensures)
