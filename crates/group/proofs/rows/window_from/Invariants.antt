use Rattle.group.specs.Listing.{listed}
use Rattle.group.specs.Share.{in_window, seen_to, Kept}
use Rattle.group.proofs.rows.window_from.Given as goal

-- what is kept is that of the pass over the dowels so far
abbrev pub invariant-loop-hole : goal.invariant-loop-hole
invariant-loop-hole l = let d = listed l.fn.holes in Kept l.row l.last (seen_to (in_window d.across l.reach l.from) d.along l.hole-index)
