-- Refusals as a list of tests in their order: of a table, and of a record or of a writer's values after it.
use Rattle.std.specs.Prelude.{ℕ, Bool, true, cond, ◌&&◌, List, [], ◌∷◌, ltb}

-- a refusal's number, and whether its test holds
pub record Test : Type 0 where
  pub number : ℕ
  pub holds : Bool

abbrev pub test : ℕ → Bool → Test
test k b = record { number = k; holds = b }

-- the number of the first test that holds; 0 where none does
unfoldable pub first_holding : List Test → ℕ
first_holding [] = 0
first_holding (t ∷ tests) = cond t.holds t.number (first_holding tests)

-- no test has the number 0, which says that none holds
unfoldable pub numbered : List Test → Bool
numbered [] = true
numbered (t ∷ tests) = ltb 0 t.number && numbered tests
