-- A record's values as they are handed over, and what of them reads back (02, A2 and A9).
use Rattle.std.specs.Prelude.{ℕ, ◌≡◌, List, length, take, replicate, ℤ, pos}
use Rattle.joint.specs.declared.Member.{Member}
use Rattle.joint.specs.declared.Values.{Values}
use Rattle.tables.specs.Table.{Table}
use Rattle.joint.specs.Layout.{values_of}
use Rattle.joint.specs.Refusal.{refusal_number}
use Rattle.writer.specs.declared.MemberFields.{MemberFields}
use Rattle.writer.specs.declared.Fields.{Fields}
use Rattle.writer.specs.Write.{placed}

-- ---- 0 where the version has no field: gx, gy, plate and marks
abbrev pub member_to : Member → MemberFields
member_to m =
    record {
      class = pos m.class;
      grain = pos m.grain;
      gx = pos 0;
      gy = pos 0;
      thickness = pos m.thickness;
      x0 = m.outline.x0;
      y0 = m.outline.y0;
      x1 = m.outline.x1;
      y1 = m.outline.y1;
    }

unfoldable pub fields_of : Values → Fields
fields_of v =
    record {
      version = pos v.version;
      planes = pos v.members.planes;
      member1 = member_to v.members.member1;
      member2 = member_to v.members.member2;
      diameter = pos v.dowel.diameter;
      steel = pos v.dowel.steel;
      plate = pos 0;
      service_class = pos v.loads.service_class;
      duration = pos v.loads.duration;
      fx = v.loads.fx;
      fy = v.loads.fy;
    }

-- 64 places
unfoldable pub marks_of : Values → List ℤ
marks_of v = replicate 64 (pos 0)

-- ---- 'a value for which the version written has no field is not looked at and reads back as 0': the version is one of the fields
abbrev pub normal_member : MemberFields → MemberFields
normal_member m =
    record {
      class = m.class;
      grain = m.grain;
      gx = pos 0;
      gy = pos 0;
      thickness = m.thickness;
      x0 = m.x0;
      y0 = m.y0;
      x1 = m.x1;
      y1 = m.y1;
    }

unfoldable pub normal : Fields → Fields
normal f =
    record {
      version = f.version;
      planes = f.planes;
      member1 = normal_member f.member1;
      member2 = normal_member f.member2;
      diameter = f.diameter;
      steel = f.steel;
      plate = pos 0;
      service_class = f.service_class;
      duration = f.duration;
      fx = f.fx;
      fy = f.fy;
    }

-- a record's x and y as lists of their own length, to be handed over again
abbrev pub x_of : Values → List ℤ
x_of v = take v.positions.n v.positions.x

abbrev pub y_of : Values → List ℤ
y_of v = take v.positions.n v.positions.y

-- ---- what is promised of a record that was made from a firm's numbers, read by the same table
pub record ReadsBack (t : Table) (made : List ℕ) (f : Fields) (x y : List ℤ) : Type 0 where
  pub passes : refusal_number t made ≡ 0
  pub fields : fields_of (values_of made) ≡ normal f
  pub number : (values_of made).positions.n ≡ length x
  pub x_places : (values_of made).positions.x ≡ placed x
  pub y_places : (values_of made).positions.y ≡ placed y
  pub marks : marks_of (values_of made) ≡ replicate 64 (pos 0)
