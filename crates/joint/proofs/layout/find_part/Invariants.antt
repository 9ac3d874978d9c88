use Prim.Native.Nat.{ℕ, ◌<◌}
use lib.ListN.{get_or}
use mathlib.Core.Path.{◌≡◌}
use Rattle.joint.specs.Told.{kind_code}
use Rattle.joint.proofs.layout.find_part.Given as goal

abbrev pub invariant-loop-k : goal.invariant-loop-k
invariant-loop-k l = (j : ℕ) → j < l.k → get_or l.bytes (get_or l.bounds j 0) 0 ≡ kind_code l.kind → ⊥
