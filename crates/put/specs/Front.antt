-- Nobody needs to believe this: how the code puts a record together. What stands before the parts, by the version and the number of dowels
-- alone, and how many bytes the whole has.
use Rattle.std.specs.Prelude.{ℕ, ◌+◌, ◌*◌, ◌≤◌, List, [], ◌∷◌, ◌++◌, pos, drop}
use Rattle.numbers.specs.Fields.{Width, field_bytes}
use Rattle.joint.specs.Layout.{header_fields, member_fields, pairs_bytes}

-- x0, y0, x1 and y1, as they stand in a member
abbrev pub outline_fields : List Width
outline_fields = drop 3 member_fields

-- how many bytes each part has
abbrev pub part_sizes : ℕ → List ℕ
part_sizes n = 42 ∷ 3 ∷ (2 + 8 * n) ∷ 11 ∷ []

-- version, number of pairs, and the pairs
unfoldable pub front_bytes : ℕ → ℕ → List ℕ
front_bytes version n = field_bytes header_fields (pos version ∷ pos 4 ∷ []) ++ pairs_bytes 20 (part_sizes n)

abbrev pub record_size : ℕ → ℕ
record_size n = 78 + 8 * n

-- what putting a record of n dowels asks for; `room` is the buffer's length
pub record Room (n room : ℕ) : Type 0 where
  pub dowels : n ≤ 64
  pub enough : record_size n ≤ room
