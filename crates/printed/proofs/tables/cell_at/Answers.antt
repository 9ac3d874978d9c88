use Rattle.printed.proofs.Most.{cell_bound}
use Rattle.printed.proofs.tables.cell_at.Goals as goal

pub returns-in-Single : goal.returns-in-Single
returns-in-Single c = cell_bound 1482 _ _ c.cell_of.ensures tt

pub returns-in-MiddleTurned : goal.returns-in-MiddleTurned
returns-in-MiddleTurned c = cell_bound 1482 _ _ c.cell_of-in-MiddleTurned.ensures tt

pub returns-in-SidesTurned : goal.returns-in-SidesTurned
returns-in-SidesTurned c = cell_bound 1482 _ _ c.cell_of-in-SidesTurned.ensures tt
