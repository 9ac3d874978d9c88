-- A refusal is returned exactly where its test holds and none before it does; a record is accepted exactly where none holds.
use Prim.Native.Nat.{ℕ, suc}
use mathlib.Core.Path.{◌≡◌}
use mathlib.Core.List.{List}
use mathlib.Core.Logic.{◌↔◌}
use Rattle.tables.specs.Table.{Table, Loaded, Right}
use Rattle.joint.specs.Order.{FirstAt, NoneHolds, holding, tests, position}
use Rattle.joint.specs.Refusal.{record_tests, refusal_of}
use Rattle.tables.specs.Tests.{first_holding}
use Rattle.joint.proofs.Faults.{by_number, position_first}
use Rattle.joint.proofs.Holding.{exactly, exactly_none}

-- ---- of a record, by a table: refusals 1 to 9, and all
pub unnumbered : (t : Table) (s : List ℕ) → (first_holding (record_tests t s) ≡ 0) ↔ NoneHolds (holding (record_tests t s))
unnumbered t s = rw (by_number t s) (exactly_none (holding (record_tests t s)))

pub refused_exactly : (t : Table) → Right t → Loaded t → (s : List ℕ) (j : ℕ) → (position (refusal_of t s) ≡ suc j) ↔ FirstAt (holding (tests t s)) j
refused_exactly t r l s j = rw (position_first t r l s) (exactly j (holding (tests t s)))

pub accepted_exactly : (t : Table) → Right t → Loaded t → (s : List ℕ) → (position (refusal_of t s) ≡ 0) ↔ NoneHolds (holding (tests t s))
accepted_exactly t r l s = rw (position_first t r l s) (exactly_none (holding (tests t s)))
