-- 2^60 part/whole has at most 60 bits, so the root is that of the definition.
use Rattle.std.proofs.Common.{◌≡◌, ℕ, ◌*◌, ◌/◌, ◌<◌, ◌≤◌, ap, ◌∙◌, lt_of_le_of_lt, mul_comm, arith, lit<}
use Rattle.wide.specs.Natural.{value}
use Rattle.wide.proofs.Bits.{product_fits}
use Rattle.strength.specs.Working.{share_root_of, square_root_of}
use Rattle.strength.proofs.Greatest.{square_root_is}
use Rattle.strength.proofs.Room.{divided_is}
use Rattle.strength.proofs.terms.Joined.share_root.Goals as goal

bound : (x part whole : ℕ) → x ≡ part * 1152921504606846976 → part ≤ whole → 0 < whole → x < 18446744073709551616 * whole
bound x part whole e h p = omega arith

pub times_u64-scaled-requires : goal.times_u64-scaled-requires
unfolding share_root_of
times_u64-scaled-requires c = product_fits 147 61 7 (lt_of_le_of_lt c.requires.below c.requires.bits) (lit< tt) tt tt

pub quotient-requires : goal.quotient-requires
unfolding share_root_of
quotient-requires c = bound _ _ _ c.times_u64-scaled.ensures c.requires.below c.requires.positive

pub returns : goal.returns
unfolding share_root_of
returns c = square_root_is _ _ c.quotient.type_inv c.whole_square_root.ensures
    ∙ ap square_root_of
    (divided_is c.quotient.ensures
    ∙ ap (λ (z : ℕ). z / value c.args.self.now.whole)
    (c.times_u64-scaled.ensures ∙ mul_comm _ _))
