-- Where n is not 0, its leading zeros say which power of two is low.
use Rattle.strength.proofs.Starts.{starting_above_0}
use Rattle.strength.proofs.roots.starting_bracket.Goals as goal

pub returns : goal.returns
returns c = starting_above_0 _ c.if-n-eq0.false c.ranges.n.fits
