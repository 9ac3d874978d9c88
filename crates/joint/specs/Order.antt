-- 'Order': what it means that a test of a list is the first that holds. Tests are counted from 0.
use Rattle.std.specs.Prelude.{ℕ, ◌+◌, ◌<◌, ◌≡◌, List, ◌++◌, map, Bool, true, false, cond, get_or, eqb}
use Rattle.tables.specs.Tests.{Test}
use Rattle.tables.specs.Table.{Table}
use Rattle.joint.specs.Refusal.{record_tests, drill_tests}
use Rattle.spacing.specs.Verdict.{Fault}

pub record FirstAt (tests : List Bool) (j : ℕ) : Type 0 where
  pub holds : get_or tests j false ≡ true
  pub before : (i : ℕ) → i < j → get_or tests i false ≡ false

pub record NoneHolds (tests : List Bool) : Type 0 where
  pub none : (i : ℕ) → get_or tests i false ≡ false

-- whether each test holds
abbrev pub holding : List Test → List Bool
holding tests = map (λ (t : Test). t.holds) tests

-- all tests of a record, read by a table; the table's own come before them
abbrev pub tests : Table → List ℕ → List Test
tests t s = record_tests t s ++ drill_tests s

-- where a refusal of a record stands in 01's order, by a table that loads (a table's own refusal has no place here): 1 to 9 by number, then
-- 10, 11, 12 of member 1, then of member 2
abbrev pub position : Fault → ℕ
position f = cond (eqb f.member 2) (f.number + 3) f.number
