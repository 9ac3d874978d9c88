-- A number inside the bracket lo .. hi of the fifth root is tried: the width falls, and the root stays inside.
use Rattle.std.proofs.Common.{◌-◌}
use Rattle.strength.proofs.roots.+fifth_root_near.Given as goal

abbrev pub decreases-fifth_root_near : goal.decreases-fifth_root_near
decreases-fifth_root_near l = l.hi - l.lo
