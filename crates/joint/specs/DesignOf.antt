-- What the formulas take of a record's values: the one place where codes, tables and grain become numbers.
use Rattle.std.specs.Prelude.{ℕ, ◌*◌, cond, [], ◌∷◌, eqb, nat_abs}
use Rattle.strength.specs.Fraction.{Fraction, ◌over◌, whole}
use Rattle.codes.specs.Tables.{k90_of, steel_of, kmod_of, listed}
use Rattle.tables.specs.Table.{Table, wood_of}
use Rattle.strength.specs.declared.plane.Timber.{Timber}
use Rattle.strength.specs.declared.plane.Plane.{Plane}
use Rattle.spacing.specs.Spacing.{along, across, squared_force}
use Rattle.group.specs.Rows.{reach_of, OfRow}
use Rattle.joint.specs.declared.Member.{Member}
use Rattle.joint.specs.declared.Members.{Members}
use Rattle.joint.specs.declared.Dowel.{Dowel}
use Rattle.joint.specs.declared.Loads.{Loads}
use Rattle.joint.specs.declared.Values.{Values}
use Rattle.joint.specs.Design.{Carrier, Design}

-- c, 'the size (never negative) of the whole force's component along the grain'
abbrev pub force_along : Loads → Member → ℕ
force_along l m = nat_abs (along m.grain l.fx l.fy)

-- ---- Strength of a shear plane
-- a member in a shear plane: the density that the table has at its class, k90 by the kind of its wood; cos²α is the squared component along
-- over fx² + fy²
abbrev pub plane_member : Table → ℕ → Member → ℕ → ℕ → Timber
plane_member t d m c total = record {
  density = (wood_of t m.class).density;
  k90 = k90_of (wood_of t m.class).kind d;
  along = c * c;
  total = total;
  thickness = m.thickness;
}

unfoldable pub plane_in : Table → Members → Dowel → ℕ → ℕ → ℕ → Plane
plane_in t m w total c1 c2 = record {
  member1 = plane_member t w.diameter m.member1 c1 total;
  member2 = plane_member t w.diameter m.member2 c2 total;
  diameter = w.diameter;
  steel = listed (steel_of w.steel);
  planes = m.planes;
}

abbrev pub plane_of : Table → Members → Dowel → Loads → Plane
plane_of t m w l =
    plane_in t m w (squared_force l.fx l.fy) (force_along l m.member1) (force_along l m.member2)

-- ---- Rows, share and use
-- h, 'kmod in hundredths'
abbrev pub kmod_in : Loads → ℕ
kmod_in l = listed (kmod_of l.service_class l.duration)

-- 'T = N p, but p/2 for one dowel, which counts half'
abbrev pub counted_planes : ℕ → ℕ → Fraction
counted_planes n p = cond (eqb n 1) (p over 2) (whole (n * p))

-- a member's force along the grain, and its rows (02, A3) by its own along and across; each two of a row differ across by less than d
abbrev pub carrier_of : Values → Member → Carrier
carrier_of v m = record {
  along = force_along v.loads m;
  row =
      OfRow (along m.grain v.positions.x v.positions.y) (across m.grain v.positions.x v.positions.y)
      v.positions.n (reach_of v.dowel.diameter);
}

abbrev pub design_of : Table → Values → Design
design_of t v = record {
  plane = plane_of t v.members v.dowel v.loads;
  diameter = v.dowel.diameter;
  squared_force = squared_force v.loads.fx v.loads.fy;
  counted = counted_planes v.positions.n v.members.planes;
  kmod = kmod_in v.loads;
  members = carrier_of v v.members.member1 ∷ carrier_of v v.members.member2 ∷ [];
}
