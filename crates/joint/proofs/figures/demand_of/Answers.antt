-- The plane is the record's.
use Rattle.std.proofs.Common.{◌≡◌, rules}
use mir.Syntax.{w32}
use mir.Val.{of_z, to_z}
use Rattle.joint.proofs.figures.demand_of.Goals as goal

pub capacity_of-requires-clause-plane_within : goal.capacity_of-requires-clause-plane_within
capacity_of-requires-clause-plane_within c = let l = c.args.v.now.loads in
    let p = c.requires.plane in
    let x : to_z w32 (of_z w32 l.fx) ≡ l.fx = search rules in
    let y : to_z w32 (of_z w32 l.fy) ≡ l.fy = search rules in
    rw (p.member1, p.member2, c.squared_force-total.ensures, x, y) p.plane
