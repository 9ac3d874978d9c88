-- How many bytes the parts and the whole of a record have.
use Prim.Native.Nat.{ℕ, zero, suc, ◌+◌, ◌*◌}
use native.Mathlib.Omega.{arith}
use mathlib.Core.List.{List, ◌++◌}
use mathlib.Core.Path.{◌≡◌, refl}
use lib.IntN.{ℤ}
use lib.ListN.{length, length-append}
use Rattle.joint.specs.declared.Member.{Member}
use Rattle.joint.specs.declared.Members.{Members}
use Rattle.joint.specs.declared.Dowel.{Dowel}
use Rattle.joint.specs.declared.Positions.{Positions}
use Rattle.joint.specs.declared.Loads.{Loads}
use Rattle.joint.specs.declared.Values.{Values}
use Rattle.joint.specs.Layout.{member_bytes, members_bytes, dowel_bytes, columns_bytes, positions_bytes, loads_bytes, parts_bytes, pairs_bytes, joined, bytes_of}
use Rattle.put.specs.Front.{front_bytes, record_size}

pub member_length : (m : Member) → length (member_bytes m) ≡ 20
unfolding member_bytes
member_length m = refl

pub members_length : (m : Members) → length (members_bytes m) ≡ 42
unfolding members_bytes
members_length m = simp (length-append, member_length)

pub dowel_length : (w : Dowel) → length (dowel_bytes w) ≡ 3
unfolding dowel_bytes
dowel_length w = refl

pub columns_length : (x y : List ℤ) (n : ℕ) → length (columns_bytes x y n) ≡ 8 * n
unfolding columns_bytes
columns_length x y zero = refl
columns_length x y (suc n) = simp (length-append, columns_length x y n) (omega arith)

pub positions_length_lem : (p : Positions) → length (positions_bytes p) ≡ 2 + 8 * p.n
unfolding positions_bytes
positions_length_lem p = simp columns_length (omega arith)

pub loads_length : (l : Loads) → length (loads_bytes l) ≡ 11
unfolding loads_bytes
loads_length l = refl

pub front_length : (version n : ℕ) → length (front_bytes version n) ≡ 20
unfolding front_bytes pairs_bytes
front_length version n = refl

-- what the pairs say of the parts' lengths
pub front_is : (v : Values) → front_bytes v.version v.positions.n ++ joined (parts_bytes v) ≡ bytes_of v
unfolding front_bytes bytes_of pairs_bytes
front_is v = simp (members_length, dowel_length, positions_length_lem, loads_length)

pub bytes_length : (v : Values) → length (bytes_of v) ≡ record_size v.positions.n
unfolding joined
bytes_length v =
    rw (← front_is v) (simp (length-append, front_length, members_length, dowel_length, positions_length_lem, loads_length) (omega arith))
