-- The writer (02, A2): what a firm hands over as the record's values, which refusal that has by a table of classes (A4), and what stands in the
-- buffer afterwards.
use Rattle.std.specs.Prelude.{ℕ, ◌≡◌, List, [], ◌∷◌, ◌++◌, Bool, cond, not, ◌&&◌, ltb, eqb, length, get_or, take, drop, ℤ, pos, nat_abs}
use Rattle.std.specs.Int.Signed.{le_z}
use Rattle.codes.specs.Tables.{is_version}
use Rattle.joint.specs.declared.Member.{Member}
use Rattle.joint.specs.declared.Members.{Members}
use Rattle.joint.specs.declared.Dowel.{Dowel}
use Rattle.joint.specs.declared.Positions.{Positions}
use Rattle.joint.specs.declared.Loads.{Loads}
use Rattle.joint.specs.declared.Values.{Values}
use Rattle.joint.specs.Layout.{column, bytes_of}
use Rattle.tables.specs.Tests.{Test, test, first_holding}
use Rattle.tables.specs.Table.{Table}
use Rattle.joint.specs.Refusal.{value_tests}
use Rattle.writer.specs.declared.MemberFields.{MemberFields}
use Rattle.writer.specs.declared.Fields.{Fields}

-- ---- what is handed over, as a record's values. Versions 1 and 2 have no field for gx, gy, plate and marks. A field without a sign takes a number's
-- size; the tests below turn a number away that is below 0 there.
abbrev pub member_from : MemberFields → Member
member_from m =
    record {
      class = nat_abs m.class;
      grain = nat_abs m.grain;
      thickness = nat_abs m.thickness;
      outline = record { x0 = m.x0; y0 = m.y0; x1 = m.x1; y1 = m.y1 };
    }

abbrev pub members_from : Fields → Members
members_from f =
    record { planes = nat_abs f.planes; member1 = member_from f.member1; member2 = member_from f.member2 }

abbrev pub dowel_from : Fields → Dowel
dowel_from f = record { diameter = nat_abs f.diameter; steel = nat_abs f.steel }

-- a list's numbers in 64 places, those past its end 0
abbrev pub placed : List ℤ → List ℤ
placed l = column (λ k. get_or l k (pos 0)) (length l)

abbrev pub positions_from : List ℤ → List ℤ → Positions
positions_from x y = record { n = length x; x = placed x; y = placed y }

abbrev pub loads_from : Fields → Loads
loads_from f =
    record {
      service_class = nat_abs f.service_class;
      duration = nat_abs f.duration;
      fx = f.fx;
      fy = f.fy;
    }

unfoldable pub values_from : Fields → List ℤ → List ℤ → Values
values_from f x y =
    record {
      version = nat_abs f.version;
      members = members_from f;
      dowel = dowel_from f;
      positions = positions_from x y;
      loads = loads_from f;
    }

-- ---- the tests
-- 2: a version that is not known
abbrev pub is_unsigned : ℤ → Bool
is_unsigned z = le_z (pos 0) z

unfoldable pub version_unknown : Fields → Bool
version_unknown f = not (is_unsigned f.version && is_version (nat_abs f.version))

-- 7: a number below 0 where the field has no sign
unfoldable pub member_unsigned : MemberFields → Bool
member_unsigned m = is_unsigned m.class && is_unsigned m.grain && is_unsigned m.thickness

unfoldable pub fields_unsigned : Fields → Bool
fields_unsigned f =
    is_unsigned f.planes && member_unsigned f.member1 && member_unsigned f.member2 && is_unsigned f.diameter
    && is_unsigned f.steel && is_unsigned f.service_class && is_unsigned f.duration

-- 7: 'lists of x and of y that differ in length'
abbrev pub lists_alike : List ℤ → List ℤ → Bool
lists_alike x y = eqb (length x) (length y)

-- 'It tests values for 7, 8 and 9 first', by the reader's own tests; 'hold not 1 to 64 numbers' is among them
abbrev pub handed_tests : Table → Fields → List ℤ → List ℤ → List Test
handed_tests t f x y =
    test 2 (version_unknown f) ∷ test 7 (not (fields_unsigned f && lists_alike x y)) ∷ value_tests t (values_from f x y)

-- '13, the buffer is shorter than the record, tested after 9': `room` is the buffer's length
unfoldable pub own_tests : Table → Fields → List ℤ → List ℤ → ℕ → List Test
own_tests t f x y room = handed_tests t f x y ++ test 13 (ltb room (length (bytes_of (values_from f x y)))) ∷ []

-- A4: 'a record .. written with a table that did not load gets the same refusal, before any test of its own'
abbrev pub writer_tests : Table → Fields → List ℤ → List ℤ → ℕ → List Test
writer_tests t f x y room = t.tests ++ own_tests t f x y room

-- ---- the answer: a refusal and length 0; or number 0 and how many bytes the record has
pub record Written : Type 0 where
  pub number : ℕ
  pub length : ℕ

unfoldable pub writer_number : Table → Fields → List ℤ → List ℤ → ℕ → ℕ
writer_number t f x y room = first_holding (writer_tests t f x y room)

-- 'reports the length'; 'on refusal all stay and the length is 0'
unfoldable pub written_of : Table → Fields → List ℤ → List ℤ → ℕ → Written
written_of t f x y room =
    record {
      number = writer_number t f x y room;
      length = cond (eqb (writer_number t f x y room) 0) (length (bytes_of (values_from f x y))) 0;
    }

-- 'Bytes past the reported length stay'
unfoldable pub buffer_after : Table → Fields → List ℤ → List ℤ → List ℕ → List ℕ
buffer_after t f x y buffer =
    cond (eqb (writer_number t f x y (length buffer)) 0)
    (bytes_of (values_from f x y) ++ drop (length (bytes_of (values_from f x y))) buffer)
    buffer

-- the record that was made: as many of the buffer's first bytes as were reported
abbrev pub record_made : Table → Fields → List ℤ → List ℤ → List ℕ → List ℕ
record_made t f x y buffer = take (written_of t f x y (length buffer)).length (buffer_after t f x y buffer)

-- what `write_with` promises, and `write` at the printed table: its answer, and every byte of the buffer
pub record Wrote (t : Table) (f : Fields) (x y : List ℤ) (before after : List ℕ) (r : Written) : Type 0 where
  pub answer : r ≡ written_of t f x y (length before)
  pub buffer : after ≡ buffer_after t f x y before
