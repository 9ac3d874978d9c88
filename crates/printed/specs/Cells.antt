-- A cell of a table, by its place.
use Rattle.std.specs.Prelude.{ℕ, ◌/◌, ◌%◌, List, [], get_or}

-- the cells stand in groups of three; past the last group a cell is 0
unfoldable pub cell_of : List (List ℕ) → ℕ → ℕ
cell_of groups cell = get_or (get_or groups (cell / 3) []) (cell % 3) 0
