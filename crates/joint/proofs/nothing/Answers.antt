-- Each field is 0 by itself.
use Rattle.joint.specs.Refusal.{zero_values}
use Rattle.joint.proofs.Columns.{zero_positions_is}
use Rattle.joint.proofs.nothing.Goals as goal

pub returns : goal.returns
unfolding zero_values
returns c =
    let d = c.default.ensures in
    let m = d.1.0 in
    let a = m.1.0 in
    let b = m.1.1 in
    let o = a.1.1.1 in
    let q = b.1.1.1 in
    let w = d.1.1.0 in
    let places = d.1.1.1.0 in
    let p = zero_positions_is places.0 places.1.0 places.1.1 in
    let l = d.1.1.1.1 in
    λ i. record {
      version = d.0 i;
      members =
          record {
            planes = m.0 i;
            member1 = record { class = a.0 i; grain = a.1.0 i; thickness = a.1.1.0 i; outline = record { x0 = o.0 i; y0 = o.1.0 i; x1 = o.1.1.0 i; y1 = o.1.1.1 i } };
            member2 = record { class = b.0 i; grain = b.1.0 i; thickness = b.1.1.0 i; outline = record { x0 = q.0 i; y0 = q.1.0 i; x1 = q.1.1.0 i; y1 = q.1.1.1 i } };
          };
      dowel = record { diameter = w.0 i; steel = w.1 i };
      positions = p i;
      loads = record { service_class = l.0 i; duration = l.1.0 i; fx = l.1.1.0 i; fy = l.1.1.1 i };
    }
