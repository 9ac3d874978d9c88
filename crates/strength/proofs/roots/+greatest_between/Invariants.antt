-- The bracket lo .. hi is halved: its width falls.
use Rattle.std.proofs.Common.{◌-◌}
use Rattle.strength.proofs.roots.+greatest_between.Given as goal

abbrev pub decreases-greatest_between : goal.decreases-greatest_between
decreases-greatest_between g l = l.high - l.low
