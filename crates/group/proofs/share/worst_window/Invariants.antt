use lib.ListN.{length}
use Rattle.group.specs.Listing.{listed}
use Rattle.group.specs.Share.{WorstOf}
use Rattle.group.proofs.share.worst_window.Given as goal

-- the row kept passes the shares that the windows so far all pass
abbrev pub invariant-loop-i : goal.invariant-loop-i
invariant-loop-i l =
    WorstOf l.reach (listed l.holes).along (listed l.holes).across (length l.holes) l.starts l.i l.worst
