-- Document 01, 'Who causes which refusal': one test for each number, over the whole record, in 01's order. Those of 7 to 9 are tests of
-- its values, so that a writer can make them too; those of 10 to 12 are the rules of crate `spacing` at its values. A record is read by a
-- table of classes, the printed one or a firm's (02, A4, A6), whose tests come before all others.
use Rattle.std.specs.Prelude.{ℕ, zero, suc, ◌+◌, ◌*◌, List, [], ◌∷◌, ◌++◌, Bool, true, cond, not, ◌&&◌, ◌||◌, length, get_or, replicate, ℤ, pos, nat_abs, ltb, leb, eqb}
use Rattle.std.specs.Int.Signed.{le_z}
use Rattle.numbers.specs.Numbers.{coordinate, force}
use Rattle.numbers.specs.Fields.{size, field}
use Rattle.codes.specs.Tables.{is_version}
use Rattle.chain.specs.Chain.{chained}
use Rattle.chain.specs.declared.Width.TheVariants.{Two}
use Rattle.tables.specs.Tests.{Test, test, first_holding}
use Rattle.tables.specs.Table.{Table, is_class}
use Rattle.joint.specs.Layout.{members_front, member_fields, dowel_fields, positions_front, position_fields, loads_fields}
use Rattle.joint.specs.Layout.{version, pair_count, kind_of_pair, part_of_kind, values_of}
use Rattle.joint.specs.declared.Outline.{Outline}
use Rattle.joint.specs.declared.Member.{Member}
use Rattle.joint.specs.declared.Members.{Members}
use Rattle.joint.specs.declared.Dowel.{Dowel}
use Rattle.joint.specs.declared.Positions.{Positions}
use Rattle.joint.specs.declared.Loads.{Loads}
use Rattle.joint.specs.declared.Values.{Values}
use Rattle.joint.specs.Answer.{Reading, Outcome}
use Rattle.spacing.specs.declared.edge.EdgeRule.{EdgeRule}
use Rattle.spacing.specs.declared.edge.EdgeRule.TheVariants.{Table8, Eurocode}
use Rattle.spacing.specs.declared.view.Which.{Which}
use Rattle.spacing.specs.declared.view.Which.TheVariants.{Member1, Member2}
use Rattle.spacing.specs.declared.view.Piece.{Piece}
use Rattle.spacing.specs.declared.view.Frame.{Frame}
use Rattle.spacing.specs.Verdict.{Fault}
use Rattle.spacing.specs.Spacing.{along, across, frame_of}
use Rattle.spacing.specs.Verdict.{fault, pair_fault, end_fault, edge_fault, spacing_verdict}

-- ---- The script that writes the record
-- '1 fewer than 20 bytes'
unfoldable pub refusal1 : List ℕ → Bool
refusal1 s = ltb (length s) 20

-- '2 version not 1'; 02, A7: 'Refusal 2 now means a version not yet known'
unfoldable pub refusal2 : List ℕ → Bool
refusal2 s = not (is_version (version s))

-- '3 pair count not 4'
unfoldable pub refusal3 : List ℕ → Bool
refusal3 s = not (eqb (pair_count s) 4)

-- '4 pairs against the rule': 'four pairs of u16', the first at byte 4; 'The first offset is 20, each next is the sum of the pair before,
-- the last sum is the record's length. No length is 0.'
unfoldable pub refusal4 : List ℕ → Bool
refusal4 s = not (chained Two s 4 20 4)

-- '5 kinds not once each': a kind other than 1 to 4 leaves one of these without its part
unfoldable pub one_if : Bool → ℕ
one_if b = cond b 1 0

unfoldable pub once : List ℕ → ℕ → Bool
once s kind =
    eqb
    (one_if (eqb (kind_of_pair s 1) kind) + one_if (eqb (kind_of_pair s 2) kind)
    + one_if (eqb (kind_of_pair s 3) kind) + one_if (eqb (kind_of_pair s 4) kind))
    1

unfoldable pub refusal5 : List ℕ → Bool
refusal5 s = not (once s 1 && once s 2 && once s 3 && once s 4)

-- '6 a part's length wrong for its kind (for kind 3: below 2, or not 2 + 8N)': members 42 bytes, dowel 3, loads 11, by their fields
abbrev pub positions_size : ℕ → ℕ
positions_size n = size positions_front + size position_fields * n

unfoldable pub positions_length : List ℕ → Bool
positions_length part =
    leb (size positions_front) (length part) && eqb (length part) (positions_size (field positions_front 1 part 0))

abbrev pub members_size : ℕ
members_size = size members_front + 2 * size member_fields

unfoldable pub refusal6 : List ℕ → Bool
refusal6 s =
    not
    (eqb (length (part_of_kind s 1)) members_size && eqb (length (part_of_kind s 2)) (size dowel_fields)
    && positions_length (part_of_kind s 3) && eqb (length (part_of_kind s 4)) (size loads_fields))

-- ---- The designer's data
-- '7 a field outside its values or limits'
abbrev pub between : ℕ → ℕ → ℕ → Bool
between low high n = leb low n && leb n high

-- 'x0, y0, x1, y1'
unfoldable pub outline_within : Outline → Bool
outline_within o = coordinate o.x0 && coordinate o.y0 && coordinate o.x1 && coordinate o.y1

-- 'class u8', which the table has (02, A1: the printed one's 'now runs to 11'; A4: 'a code it lacks is a 7'); 'grain u8 (0 along x, 1 along
-- y), thickness u16 from 200 to 4,000'
unfoldable pub member_within : Table → Member → Bool
member_within t m =
    is_class t m.class && between 0 1 m.grain && between 200 4000 m.thickness && outline_within m.outline

-- 'shear planes p, 1 or 2'
unfoldable pub members_within : Table → Members → Bool
members_within t m = between 1 2 m.planes && member_within t m.member1 && member_within t m.member2

-- 'diameter d in whole mm, 6 to 30; steel 1, 2, 3'
unfoldable pub dowel_within : Dowel → Bool
dowel_within w = between 6 30 w.diameter && between 1 3 w.steel

-- the first n numbers of a list are coordinates
unfoldable pub coordinates : List ℤ → ℕ → Bool
coordinates l zero = true
coordinates l (suc n) = coordinates l n && coordinate (get_or l n (pos 0))

-- 'N as u8, 1 to 64; then x and y as i32 for each dowel'
unfoldable pub positions_within : Positions → Bool
positions_within p = between 1 64 p.n && coordinates p.x p.n && coordinates p.y p.n

-- 'service class 1 to 3; duration 1 to 5'
unfoldable pub loads_within : Loads → Bool
loads_within l =
    between 1 3 l.service_class && between 1 5 l.duration && force l.fx && force l.fy

unfoldable pub fields_within : Table → Values → Bool
fields_within t v =
    members_within t v.members && dowel_within v.dowel && positions_within v.positions && loads_within v.loads

-- '8 an outline with x0 ≥ x1 or y0 ≥ y1'
unfoldable pub outline_empty : Outline → Bool
outline_empty o = le_z o.x1 o.x0 || le_z o.y1 o.y0

unfoldable pub empty_outlines : Members → Bool
empty_outlines m = outline_empty m.member1.outline || outline_empty m.member2.outline

-- '9 both force components 0'
abbrev pub is_zero : ℤ → Bool
is_zero z = eqb (nat_abs z) 0

unfoldable pub no_force : Loads → Bool
no_force l = is_zero l.fx && is_zero l.fy

-- ---- The drill plan, of member k, 1 or 2, by the rules of 'Spacing'; the edges by the table that the version names
abbrev pub spaced : Member → Piece
spaced m =
    record { grain = m.grain; x0 = m.outline.x0; y0 = m.outline.y0; x1 = m.outline.x1; y1 = m.outline.y1 }

abbrev pub member_of : ℕ → Values → Member
member_of k v = cond (eqb k 1) v.members.member1 v.members.member2

abbrev pub which : ℕ → Which
which k = cond (eqb k 1) Member1 Member2

abbrev pub frame : ℕ → Values → Frame
frame k v = frame_of (which k) (spaced (member_of k v)) v.loads.fx v.loads.fy

-- the dowels' coordinates along and across the member's grain
abbrev pub alongs : ℕ → Values → List ℤ
alongs k v = along (member_of k v).grain v.positions.x v.positions.y

abbrev pub acrosses : ℕ → Values → List ℤ
acrosses k v = across (member_of k v).grain v.positions.x v.positions.y

-- 02, A7: 'Spacing verdicts are compared with the table that the record's version names'. 'A record of version 2 .. is judged by this rule', and
-- 'Later versions build on version 2'. 'End and pair rules are those of 01.'
abbrev pub edge_rule : ℕ → EdgeRule
edge_rule version = cond (leb 2 version) Eurocode Table8

-- '10 two dowels too close; 11 an end too near; 12 an edge too near', each with its place, or all 0 where there is none
unfoldable pub fault10 : ℕ → Values → Fault
fault10 k v = pair_fault k (frame k v) v.dowel.diameter (alongs k v) (acrosses k v) v.positions.n

unfoldable pub fault11 : ℕ → Values → Fault
fault11 k v = end_fault k (frame k v) v.dowel.diameter (alongs k v) v.positions.n

unfoldable pub fault12 : ℕ → Values → Fault
fault12 k v = edge_fault (edge_rule v.version) k (frame k v) v.dowel.diameter (acrosses k v) v.positions.n

abbrev pub is_fault : Fault → Bool
is_fault f = not (eqb f.number 0)

abbrev pub refusal10 : ℕ → List ℕ → Bool
refusal10 k s = is_fault (fault10 k (values_of s))

abbrev pub refusal11 : ℕ → List ℕ → Bool
refusal11 k s = is_fault (fault11 k (values_of s))

abbrev pub refusal12 : ℕ → List ℕ → Bool
refusal12 k s = is_fault (fault12 k (values_of s))

-- ---- 'Order: 1 to 9 as numbered, each over the whole record. Then member 1 for 10, 11, 12, then member 2.'
abbrev pub script_tests : List ℕ → List Test
script_tests s =
    test 1 (refusal1 s) ∷ test 2 (refusal2 s) ∷ test 3 (refusal3 s) ∷ test 4 (refusal4 s) ∷ test 5 (refusal5 s)
    ∷ test 6 (refusal6 s) ∷ []

-- of values, whether a record has them or a writer is handed them
abbrev pub value_tests : Table → Values → List Test
value_tests t v = test 7 (not (fields_within t v)) ∷ test 8 (empty_outlines v.members) ∷ test 9 (no_force v.loads) ∷ []

abbrev pub designer_tests : Table → List ℕ → List Test
designer_tests t s = value_tests t (values_of s)

abbrev pub drill_tests : List ℕ → List Test
drill_tests s =
    test 10 (refusal10 1 s) ∷ test 11 (refusal11 1 s) ∷ test 12 (refusal12 1 s)
    ∷ test 10 (refusal10 2 s) ∷ test 11 (refusal11 2 s) ∷ test 12 (refusal12 2 s) ∷ []

-- a record's own tests 1 to 9
abbrev pub record_tests : Table → List ℕ → List Test
record_tests t s = script_tests s ++ designer_tests t s

-- 02, A4: 'a record judged .. with a table that did not load gets the same refusal, before any test of its own'
unfoldable pub refusal_number : Table → List ℕ → ℕ
refusal_number t s = first_holding (t.tests ++ record_tests t s)

-- the first fault of the drill plan, or all 0
unfoldable pub drill_fault : Values → Fault
drill_fault v =
    spacing_verdict (edge_rule v.version) (spaced v.members.member1) (spaced v.members.member2) v.dowel.diameter v.loads.fx
    v.loads.fy v.positions.x v.positions.y v.positions.n

-- 'For 1 to 9 the place is 0, 0, 0'; for 14 to 16 too (02, A4, A6)
unfoldable pub refusal_of : Table → List ℕ → Fault
refusal_of t s = cond (eqb (refusal_number t s) 0) (drill_fault (values_of s)) (fault (refusal_number t s) 0 0 0)

-- ---- what reading answers: number 0 and the values, or the refusal and every value 0
abbrev pub zero_outline : Outline
zero_outline = record { x0 = pos 0; y0 = pos 0; x1 = pos 0; y1 = pos 0 }

abbrev pub zero_member : Member
zero_member = record { class = 0; grain = 0; thickness = 0; outline = zero_outline }

abbrev pub zero_positions : Positions
zero_positions = record { n = 0; x = replicate 64 (pos 0); y = replicate 64 (pos 0) }

unfoldable pub zero_values : Values
zero_values =
    record {
      version = 0;
      members = record { planes = 0; member1 = zero_member; member2 = zero_member };
      dowel = record { diameter = 0; steel = 0 };
      positions = zero_positions;
      loads = record { service_class = 0; duration = 0; fx = pos 0; fy = pos 0 };
    }

-- by the table's refusals and 1 to 9
unfoldable pub reading_of : Table → List ℕ → Reading
reading_of t s = record { number = refusal_number t s; values = cond (eqb (refusal_number t s) 0) (values_of s) zero_values }

-- and by all, with the refusal's place
unfoldable pub outcome : Fault → Values → Outcome
outcome f v =
    record {
      number = f.number;
      member = f.member;
      first = f.first;
      second = f.second;
      values = cond (eqb f.number 0) v zero_values;
    }

unfoldable pub outcome_of : Table → List ℕ → Outcome
outcome_of t s = outcome (refusal_of t s) (values_of s)
