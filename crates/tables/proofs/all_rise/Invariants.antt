use mathlib.Core.Path.{◌≡◌}
use lib.ListN.{drop}
use Rattle.tables.specs.Entries.{entries_of, rise}
use Rattle.tables.proofs.all_rise.Given as goal

abbrev pub invariant-loop-bytes : goal.invariant-loop-bytes
invariant-loop-bytes l = rise 0 (entries_of l.entries) ≡ rise l.before (entries_of (drop l.bytes-index l.entries))
