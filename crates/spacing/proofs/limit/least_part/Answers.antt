-- The root is rounded up.
use native.Mathlib.Omega.{arith}
use Rattle.spacing.proofs.Limits.{rounded_up}
use Rattle.spacing.proofs.limit.least_part.Goals as goal

pub returns : goal.returns
returns c = let s = c.requires in
    record { decides = rounded_up _ _ _ s.force (omega arith) c.whole_square_root.ensures }
