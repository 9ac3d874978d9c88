use mathlib.Core.Path.{◌≡◌}
use mathlib.Core.Bool.{false}
use Prim.Native.Nat.{ℕ, ◌<◌}
use Rattle.spacing.specs.Search.{has_partner}
use Rattle.spacing.specs.Limits.{close_by}
use Rattle.spacing.proofs.view.Measured.first_close.Given as goal

-- no dowel so far has a partner
abbrev pub invariant-loop-i : goal.invariant-loop-i
invariant-loop-i l = (k : ℕ) → k < l.i → has_partner (close_by l.least.along l.least.across l.self.view.along l.self.view.across) l.self.count k ≡ false
