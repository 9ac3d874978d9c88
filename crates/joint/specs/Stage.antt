-- What the stages of reading hand to one another, by the tests of `Refusal`, and the facts that a later stage asks. Nobody needs to believe
-- this: what `accept` answers is equal to `outcome_of`.
use Rattle.std.specs.Prelude.{ℕ, suc, ◌+◌, ◌*◌, ◌≤◌, ◌<◌, ◌≡◌, List, Bool, cond, ◌&&◌, ◌||◌, eqb, length, get_or, take, drop, ℤ, Option, Some, None}
use Rattle.numbers.specs.Numbers.{u8_at, i32_at}
use Rattle.joint.specs.Layout.{pair_offset, pair_length, pair_sum, kind_of_pair, pair_of_kind, part_of_kind}
use Rattle.joint.specs.Refusal.{positions_length}
use Rattle.spacing.specs.declared.view.Plan.{Plan}
use Rattle.joint.specs.declared.Values.{Values}
use Rattle.joint.specs.declared.layout.Part.{Part}
use Rattle.joint.specs.declared.layout.Parts.{Parts}

-- ---- refusals 1 to 6
-- what a right chain says of its four parts: they are not empty and lie within the record
pub record Parted (s : List ℕ) : Type 0 where
  pub some : (k : ℕ) → k < 4 → 0 < pair_length s (suc k)
  pub inside : (k : ℕ) → k < 4 → pair_sum s (suc k) ≤ length s

-- between bounds k and k + 1
pub record Bounded (s bounds : List ℕ) : Type 0 where
  pub parted : Parted s
  pub start : (k : ℕ) → k < 4 → get_or bounds k 0 ≡ pair_offset s (suc k)
  pub end : (k : ℕ) → k < 4 → get_or bounds (suc k) 0 ≡ pair_sum s (suc k)

-- some part is of the kind
unfoldable pub present : List ℕ → ℕ → Bool
present s kind =
    eqb (kind_of_pair s 1) kind || eqb (kind_of_pair s 2) kind || eqb (kind_of_pair s 3) kind || eqb (kind_of_pair s 4) kind

unfoldable pub part_at : List ℕ → ℕ → Part
part_at s k = record { start = pair_offset s k; bytes = pair_length s k }

-- the part of a kind, where there is one
unfoldable pub found : List ℕ → ℕ → Option Part
found s kind = cond (present s kind) (Some (part_at s (pair_of_kind s kind))) None

unfoldable pub parts_of : List ℕ → Parts
parts_of s = record {
  members = part_at s (pair_of_kind s 1);
  dowel = part_at s (pair_of_kind s 2);
  positions = part_at s (pair_of_kind s 3);
  loads = part_at s (pair_of_kind s 4);
}

-- the parts of all kinds, where each is there
unfoldable pub all_found : List ℕ → Option Parts
all_found s = cond (present s 1 && present s 2 && present s 3 && present s 4) (Some (parts_of s)) None

-- the stretch that a part names
abbrev pub stretch : List ℕ → Part → List ℕ
stretch s p = take p.bytes (drop p.start s)

-- each part has a length of its kind
unfoldable pub sized : List ℕ → Parts → Bool
sized s p =
    eqb p.members.bytes 42 && eqb p.dowel.bytes 3 && positions_length (stretch s p.positions) && eqb p.loads.bytes 11

-- what refusals 1 to 6 leave: a part lies within the record, where its pair says, and has its kind's length
pub record Stretch (s : List ℕ) (kind : ℕ) (p : Part) : Type 0 where
  pub inside : p.start + p.bytes ≤ length s
  pub bytes : take p.bytes (drop p.start s) ≡ part_of_kind s kind

pub record LaidOut (s : List ℕ) (p : Parts) : Type 0 where
  pub header : 20 ≤ length s
  pub members : Stretch s 1 p.members
  pub dowel : Stretch s 2 p.dowel
  pub positions : Stretch s 3 p.positions
  pub loads : Stretch s 4 p.loads
  pub members_length : length (part_of_kind s 1) ≡ 42
  pub dowel_length : length (part_of_kind s 2) ≡ 3
  pub positions_length_lem : length (part_of_kind s 3) ≡ 2 + 8 * u8_at (part_of_kind s 3) 1
  pub loads_length : length (part_of_kind s 4) ≡ 11

-- the drill plan that values make
pub record IsPlanOf (v : Values) (p : Plan) : Type 0 where
  pub diameter : p.diameter ≡ v.dowel.diameter
  pub fx : p.fx ≡ v.loads.fx
  pub fy : p.fy ≡ v.loads.fy
  pub x : p.x ≡ v.positions.x
  pub y : p.y ≡ v.positions.y
  pub count : p.count ≡ v.positions.n

-- every eighth byte of a part, from `at` on, starts a number
abbrev pub eighths : List ℕ → ℕ → ℕ → ℤ
eighths part at i = i32_at part (at + 8 * i)
