-- Document 01, 'The record': from bytes to values, in 01's order, and back from values to bytes (02, A2). Nothing here tests anything:
-- bytes past the end read as 0, and `Refusal` says which records are turned away. A record is the list of its bytes.
use Rattle.std.specs.Prelude.{ℕ, zero, suc, ◌+◌, ◌*◌, List, [], ◌∷◌, ◌++◌, map, cond, length, get_or, take, drop, set, replicate, ℤ, pos, eqb}
use Rattle.numbers.specs.Numbers.{u8_at}
use Rattle.numbers.specs.Fields.{Width, size, field, signed_field, field_bytes}
use Rattle.numbers.specs.Fields.Width.{U8, U16, I32}
use Rattle.joint.specs.declared.Member.{Member}
use Rattle.joint.specs.declared.Members.{Members}
use Rattle.joint.specs.declared.Dowel.{Dowel}
use Rattle.joint.specs.declared.Positions.{Positions}
use Rattle.joint.specs.declared.Loads.{Loads}
use Rattle.joint.specs.declared.Values.{Values}

-- ---- the fields, for reading and for writing
-- 'Bytes 0-1: version. Bytes 2-3: number of pairs. Then four pairs of u16, offset and length.'
abbrev pub header_fields : List Width
header_fields = U16 ∷ U16 ∷ []

abbrev pub pair_fields : List Width
pair_fields = U16 ∷ U16 ∷ []

-- 'Kind 1, members: kind; shear planes p; then member 1 (side) and member 2: class u8, grain u8, thickness u16, then x0, y0, x1, y1 as
-- i32.'
abbrev pub members_front : List Width
members_front = U8 ∷ U8 ∷ []

abbrev pub member_fields : List Width
member_fields = U8 ∷ U8 ∷ U16 ∷ I32 ∷ I32 ∷ I32 ∷ I32 ∷ []

-- 'Kind 2, dowel: kind; diameter d in whole mm; steel.'
abbrev pub dowel_fields : List Width
dowel_fields = U8 ∷ U8 ∷ U8 ∷ []

-- 'Kind 3, positions: kind; N as u8; then x and y as i32 for each dowel.'
abbrev pub positions_front : List Width
positions_front = U8 ∷ U8 ∷ []

abbrev pub position_fields : List Width
position_fields = I32 ∷ I32 ∷ []

-- 'Kind 4, loads: kind; service class; duration; fx and fy as i32.'
abbrev pub loads_fields : List Width
loads_fields = U8 ∷ U8 ∷ U8 ∷ I32 ∷ I32 ∷ []

-- ---- from bytes to values
abbrev pub version : List ℕ → ℕ
version s = field header_fields 0 s 0

abbrev pub pair_count : List ℕ → ℕ
pair_count s = field header_fields 1 s 0

-- pair k, counted from 1, stands at byte 4k
abbrev pub pair_offset : List ℕ → ℕ → ℕ
pair_offset s k = field pair_fields 0 s (4 * k)

abbrev pub pair_length : List ℕ → ℕ → ℕ
pair_length s k = field pair_fields 1 s (4 * k)

-- 'the sum of the pair': a true sum, which may pass 65,535
abbrev pub pair_sum : List ℕ → ℕ → ℕ
pair_sum s k = pair_offset s k + pair_length s k

-- 'the stretch of the lent record that its pair names'
unfoldable pub part_of_pair : List ℕ → ℕ → List ℕ
part_of_pair s k = take (pair_length s k) (drop (pair_offset s k) s)

-- 'A part's first byte is its kind.'
abbrev pub kind_of_pair : List ℕ → ℕ → ℕ
kind_of_pair s k = u8_at (part_of_pair s k) 0

-- 'Kinds 1 to 4 occur once each, in any order': the pair whose part has the kind
unfoldable pub pair_of_kind : List ℕ → ℕ → ℕ
pair_of_kind s kind =
    cond (eqb (kind_of_pair s 1) kind) 1
    (cond (eqb (kind_of_pair s 2) kind) 2
    (cond (eqb (kind_of_pair s 3) kind) 3 4))

abbrev pub part_of_kind : List ℕ → ℕ → List ℕ
part_of_kind s kind = part_of_pair s (pair_of_kind s kind)

unfoldable pub member_at : List ℕ → ℕ → Member
member_at part i =
    record {
      class = field member_fields 0 part i;
      grain = field member_fields 1 part i;
      thickness = field member_fields 2 part i;
      outline =
          record {
            x0 = signed_field member_fields 3 part i;
            y0 = signed_field member_fields 4 part i;
            x1 = signed_field member_fields 5 part i;
            y1 = signed_field member_fields 6 part i;
          };
    }

unfoldable pub members_in : List ℕ → Members
members_in part =
    record {
      planes = field members_front 1 part 0;
      member1 = member_at part (size members_front);
      member2 = member_at part (size members_front + size member_fields);
    }

unfoldable pub dowel_in : List ℕ → Dowel
dowel_in part = record { diameter = field dowel_fields 1 part 0; steel = field dowel_fields 2 part 0 }

-- field k of dowel i, both counted from 0
abbrev pub position_field : List ℕ → ℕ → ℕ → ℤ
position_field part k i = signed_field position_fields k part (size positions_front + size position_fields * i)

-- 64 places, of which the first n are f's numbers, and the others 0
unfoldable pub column : (ℕ → ℤ) → ℕ → List ℤ
column f zero = replicate 64 (pos 0)
column f (suc n) = set (column f n) n (f n)

unfoldable pub positions_in : List ℕ → Positions
positions_in part =
    record {
      n = field positions_front 1 part 0;
      x = column (position_field part 0) (field positions_front 1 part 0);
      y = column (position_field part 1) (field positions_front 1 part 0);
    }

unfoldable pub loads_in : List ℕ → Loads
loads_in part =
    record {
      service_class = field loads_fields 1 part 0;
      duration = field loads_fields 2 part 0;
      fx = signed_field loads_fields 3 part 0;
      fy = signed_field loads_fields 4 part 0;
    }

-- all values of a record
unfoldable pub values_of : List ℕ → Values
values_of s =
    record {
      version = version s;
      members = members_in (part_of_kind s 1);
      dowel = dowel_in (part_of_kind s 2);
      positions = positions_in (part_of_kind s 3);
      loads = loads_in (part_of_kind s 4);
    }

-- ---- from values to bytes
unfoldable pub member_bytes : Member → List ℕ
member_bytes m =
    field_bytes member_fields
    (pos m.class ∷ pos m.grain ∷ pos m.thickness
    ∷ m.outline.x0 ∷ m.outline.y0 ∷ m.outline.x1 ∷ m.outline.y1 ∷ [])

unfoldable pub members_bytes : Members → List ℕ
members_bytes m =
    field_bytes members_front (pos 1 ∷ pos m.planes ∷ []) ++ member_bytes m.member1 ++ member_bytes m.member2

unfoldable pub dowel_bytes : Dowel → List ℕ
dowel_bytes w = field_bytes dowel_fields (pos 2 ∷ pos w.diameter ∷ pos w.steel ∷ [])

-- the first n dowels
unfoldable pub columns_bytes : List ℤ → List ℤ → ℕ → List ℕ
columns_bytes x y zero = []
columns_bytes x y (suc n) =
    columns_bytes x y n ++ field_bytes position_fields (get_or x n (pos 0) ∷ get_or y n (pos 0) ∷ [])

unfoldable pub positions_bytes : Positions → List ℕ
positions_bytes p = field_bytes positions_front (pos 3 ∷ pos p.n ∷ []) ++ columns_bytes p.x p.y p.n

unfoldable pub loads_bytes : Loads → List ℕ
loads_bytes l = field_bytes loads_fields (pos 4 ∷ pos l.service_class ∷ pos l.duration ∷ l.fx ∷ l.fy ∷ [])

-- 'in kind order 1 to 4'
abbrev pub parts_bytes : Values → List (List ℕ)
parts_bytes v =
    members_bytes v.members ∷ dowel_bytes v.dowel ∷ positions_bytes v.positions ∷ loads_bytes v.loads ∷ []

-- the pairs of parts, by their lengths: 'each next offset is the sum of the pair before'
unfoldable pub pairs_bytes : ℕ → List ℕ → List ℕ
pairs_bytes offset [] = []
pairs_bytes offset (bytes ∷ others) =
    field_bytes pair_fields (pos offset ∷ pos bytes ∷ []) ++ pairs_bytes (offset + bytes) others

-- the parts end to end
unfoldable pub joined : List (List ℕ) → List ℕ
joined [] = []
joined (part ∷ parts) = part ++ joined parts

-- all bytes of a record: version, number of pairs, pairs, parts; 'The first offset is 20'
unfoldable pub bytes_of : Values → List ℕ
bytes_of v =
    field_bytes header_fields (pos v.version ∷ pos 4 ∷ []) ++ pairs_bytes 20 (map length (parts_bytes v)) ++ joined (parts_bytes v)
