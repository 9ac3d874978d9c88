use Prim.Native.Nat.{◌-◌, ◌≤◌}
use lib.ListN.{length, take, drop}
use mathlib.Core.List.{◌++◌}
use mathlib.Core.Path.{◌≡◌}
use Rattle.lent.proofs.copy.Given as goal

abbrev pub invariant-loop-k : goal.invariant-loop-k
invariant-loop-k g l = (l.k ≤ length l.from) × (l.to ≡ take l.k l.from ++ drop l.k l.initial.to) × (length l.to ≡ length l.initial.to)

abbrev pub decreases-loop-k : goal.decreases-loop-k
decreases-loop-k g l = length l.from - l.k
