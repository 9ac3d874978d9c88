use mathlib.Core.Path.{◌≡◌}
use Rattle.tables.specs.Pairs.{all_whole}
use Rattle.tables.proofs.pairs.are_whole.Given as goal

abbrev pub invariant-loop-k : goal.invariant-loop-k
invariant-loop-k l = l.whole ≡ all_whole l.table l.k
