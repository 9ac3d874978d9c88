-- What the refusals 7 to 9 leave: the ranges of an accepted record's values, as numbers.
use Prim.Native.Nat.{ℕ, ◌≤◌}
use mathlib.Core.Path.{◌≡◌}
use mathlib.Core.Bool.{true, false, not, and-eq-true_iff}
use borrow.Author.Tests.{leb-true, not-false}
use lib.Dec.{leb}
use Rattle.tables.specs.Table.{Table}
use Rattle.joint.specs.declared.Member.{Member}
use Rattle.joint.specs.declared.Values.{Values}
use Rattle.joint.specs.Refusal.{between, member_within, members_within, dowel_within, positions_within}
use Rattle.joint.specs.Refusal.{loads_within, fields_within}
use Rattle.joint.specs.Returned.{MemberHolds, FieldsHold}

-- ---- tests as inequalities
pub between_low : (low high n : ℕ) → between low high n ≡ true → low ≤ n
between_low low high n h = leb-true low n ((and-eq-true_iff (leb low n) (leb n high)).0 h).0

pub between_high : (low high n : ℕ) → between low high n ≡ true → n ≤ high
between_high low high n h = leb-true n high ((and-eq-true_iff (leb low n) (leb n high)).0 h).1

-- ---- the fields
member_holds : (t : Table) (m : Member) → member_within t m ≡ true → MemberHolds t m
unfolding member_within
member_holds t m h = let p = simp and-eq-true_iff at h in search leb-true

pub fields_hold : (t : Table) (v : Values) → not (fields_within t v) ≡ false → FieldsHold t v
unfolding fields_within members_within dowel_within positions_within loads_within
fields_hold t v h = let p = simp and-eq-true_iff at (not-false (fields_within t v) h) in search (member_holds, leb-true)
