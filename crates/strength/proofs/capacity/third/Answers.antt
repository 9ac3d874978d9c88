-- The root of c² is at most 2^30.
use Rattle.strength.proofs.Joins.{root_fits}
use Rattle.strength.proofs.capacity.third.Goals as goal

pub wedge-requires : goal.wedge-requires
wedge-requires c = root_fits c.requires c.share_root-other_root.ensures
