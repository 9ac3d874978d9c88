-- Two numbers of 146 bits make one of 147, which five limbs hold.
use Rattle.wide.proofs.Bits.{sum_bits}
use Rattle.strength.proofs.Room.{again}
use Rattle.strength.proofs.terms.sum.Goals as goal

pub add_to-requires : goal.add_to-requires
add_to-requires c = again _ 5 147 c.told-a (sum_bits 146 c.requires.first c.requires.second) tt
