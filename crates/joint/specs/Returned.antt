-- Nobody needs to believe this: the brackets are the claim. It says which use within its bracket is reported, and which report is made.
use Rattle.std.specs.Prelude.{ℕ, ◌+◌, ◌*◌, ◌-◌, ◌/◌, ◌%◌, ◌≤◌, max, min, ◌≡◌, List, true, cond, eqb}
use Rattle.tables.specs.Classes.{Sound}
use Rattle.tables.specs.Table.{Table, is_class}
use Rattle.strength.specs.Working.{square_root_of, capacity_of}
use Rattle.strength.specs.Shear.{PlaneWithin}
use Rattle.spacing.specs.Verdict.{Fault}
use Rattle.spacing.specs.Spacing.{along, across, squared_force, Components, Given}
use Rattle.group.specs.declared.member.Taken.{Taken}
use Rattle.group.specs.declared.member.Both.{Both}
use Rattle.group.specs.Rows.{reach_of}
use Rattle.group.specs.Share.{member_share}
use Rattle.joint.specs.declared.Member.{Member}
use Rattle.joint.specs.declared.Members.{Members}
use Rattle.joint.specs.declared.Dowel.{Dowel}
use Rattle.joint.specs.declared.Positions.{Positions}
use Rattle.joint.specs.declared.Loads.{Loads}
use Rattle.joint.specs.declared.Values.{Values}
use Rattle.joint.specs.Answer.{Report}
use Rattle.joint.specs.Answer.Verdict.{Refused}
use Rattle.joint.specs.Layout.{values_of}
use Rattle.joint.specs.Refusal.{refusal_of, drill_fault}
use Rattle.joint.specs.DesignOf.{force_along, plane_of, kmod_in}
use Rattle.joint.specs.Use.{verdict_of}

-- ---- which use
-- what it depends on: the code's `Demand` with no fact about it, since demands are made of values before these are tested
pub record Demand : Type 0 where
  pub total : ℕ
  pub member1 : Taken
  pub member2 : Taken
  pub planes2 : ℕ
  pub kmod : ℕ
  pub capacity : ℕ

-- a/b rounded up
unfoldable pub ceiling_of : ℕ → ℕ → ℕ
ceiling_of a b = (a + (b - 1)) / b

-- the force in 1024ths of a newton, rounded up
unfoldable pub scaled_force_of : ℕ → ℕ
scaled_force_of total = square_root_of (1048576 * total) + 1

-- ten-thousandths of the capacity that the whole force uses
unfoldable pub total_use_of : Demand → ℕ
total_use_of d = ceiling_of (2600000000 * scaled_force_of d.total) (1024 * (d.planes2 * d.kmod) * d.capacity)

-- and that the force along a member uses in its rows, with their share; kmod is a multiple of 5
unfoldable pub row_use_of : Demand → Taken → ℕ
row_use_of d m = ceiling_of (5200000000000 * m.along) (d.planes2 * (d.kmod / 5) * m.share * d.capacity)

unfoldable pub use_of : Demand → ℕ
use_of d = max (max (total_use_of d) (row_use_of d d.member1)) (row_use_of d d.member2)

-- the values for which the use is worked out
pub record RowWithin (m : Taken) : Type 0 where
  pub along_high : m.along ≤ 1000000
  pub share_low : 1000 ≤ m.share
  pub share_high : m.share ≤ 10000

pub record CheckWithin (planes2 kmod capacity : ℕ) : Type 0 where
  pub planes_low : 1 ≤ planes2
  pub planes_high : planes2 ≤ 256
  pub kmod_low : 50 ≤ kmod
  pub kmod_high : kmod ≤ 110
  pub kmod_fifth : kmod % 5 ≡ 0
  pub capacity_low : 1000 ≤ capacity
  pub capacity_high : capacity ≤ 12000000000

pub record DemandWithin (d : Demand) : Type 0 where
  pub total_low : 1 ≤ d.total
  pub total_high : d.total ≤ 2000000000000
  pub row1 : RowWithin d.member1
  pub row2 : RowWithin d.member2
  pub check : CheckWithin d.planes2 d.kmod d.capacity

-- ---- what the use of a record depends on
abbrev pub member_taken : Member → Dowel → Loads → Positions → Taken
member_taken m w l p = record {
  along = force_along l m;
  share =
      member_share w.diameter (reach_of w.diameter) (along m.grain p.x p.y) (across m.grain p.x p.y) p.n;
}

abbrev pub taken_of : Members → Dowel → Loads → Positions → Both
taken_of m w l p = record {
  member1 = member_taken m.member1 w l p;
  member2 = member_taken m.member2 w l p;
  share = min (member_taken m.member1 w l p).share (member_taken m.member2 w l p).share;
}

-- twice the number of shear planes that count
abbrev pub twice_planes : ℕ → ℕ → ℕ
twice_planes n p = cond (eqb n 1) p (2 * (n * p))

abbrev pub demand_in : Table → Members → Dowel → Loads → ℕ → Both → Demand
demand_in t m w l n b = record {
  total = squared_force l.fx l.fy;
  member1 = b.member1;
  member2 = b.member2;
  planes2 = twice_planes n m.planes;
  kmod = kmod_in l;
  capacity = capacity_of (plane_of t m w l);
}

abbrev pub demand_of : Table → Values → Demand
demand_of t v =
    demand_in t v.members v.dowel v.loads v.positions.n (taken_of v.members v.dowel v.loads v.positions)

-- the force along each member is the record's, and the plane is within the ranges of the capacity
pub record PlaneGiven (t : Table) (m : Members) (w : Dowel) (l : Loads) (along1 along2 : ℕ) : Type 0 where
  pub member1 : along1 ≡ force_along l m.member1
  pub member2 : along2 ≡ force_along l m.member2
  pub small1 : along1 ≤ 1000000
  pub small2 : along2 ≤ 1000000
  pub force : Components w.diameter l.fx l.fy
  pub plane : PlaneWithin (plane_of t m w l)

-- ---- which report
abbrev pub report_with : Demand → ℕ → Report
report_with d share = record {
  verdict = verdict_of (use_of d);
  number = 0;
  member = 0;
  first = 0;
  second = 0;
  usage = use_of d;
  capacity = d.capacity / 1000;
  share = share;
}

unfoldable pub answered : Table → Values → Report
answered t v = report_with (demand_of t v) (taken_of v.members v.dowel v.loads v.positions).share

unfoldable pub unanswered : Fault → Report
unanswered f = record {
  verdict = Refused;
  number = f.number;
  member = f.member;
  first = f.first;
  second = f.second;
  usage = 0;
  capacity = 0;
  share = 0;
}

-- the report on a record, read by a table
unfoldable pub report_of : Table → List ℕ → Report
report_of t s = cond (eqb (refusal_of t s).number 0) (answered t (values_of s)) (unanswered (refusal_of t s))

-- ---- what the values of an accepted record are known to be, when their figures are worked out
pub record MemberHolds (t : Table) (m : Member) : Type 0 where
  pub class : is_class t m.class ≡ true
  pub thickness_low : 200 ≤ m.thickness
  pub thickness_high : m.thickness ≤ 4000

pub record FieldsHold (t : Table) (v : Values) : Type 0 where
  pub planes_low : 1 ≤ v.members.planes
  pub planes_high : v.members.planes ≤ 2
  pub member1 : MemberHolds t v.members.member1
  pub member2 : MemberHolds t v.members.member2
  pub diameter_low : 6 ≤ v.dowel.diameter
  pub diameter_high : v.dowel.diameter ≤ 30
  pub steel_low : 1 ≤ v.dowel.steel
  pub steel_high : v.dowel.steel ≤ 3
  pub dowels_low : 1 ≤ v.positions.n
  pub dowels_high : v.positions.n ≤ 64
  pub service_low : 1 ≤ v.loads.service_class
  pub service_high : v.loads.service_class ≤ 3
  pub duration_low : 1 ≤ v.loads.duration
  pub duration_high : v.loads.duration ≤ 5

pub record Passed (t : Table) (v : Values) : Type 0 where
  pub sound : Sound t.classes
  pub fields : FieldsHold t v
  pub given : Given v.dowel.diameter v.loads.fx v.loads.fy v.positions.n
  pub drill : (drill_fault v).number ≡ 0
