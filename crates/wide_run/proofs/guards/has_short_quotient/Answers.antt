-- 0, 0, 1 is 2^64, and 2^64 b is compared with a.
use native.Mathlib.Omega.{arith}
use lib.Dec.{lit<}
use borrow.Author.Tests.{not-true}
use Rattle.wide.specs.Natural.{value}
use Rattle.wide.proofs.Bits.{product_fits}
use Rattle.wide.proofs.Tests.{test_lt}
use Rattle.wide_run.proofs.Room.{slice_bits}
use Rattle.wide_run.proofs.guards.has_short_quotient.Goals as goal

pub product-p-requires : goal.product-p-requires
unfolding value
product-p-requires c = product_fits 512 65 19 (slice_bits c.args.b.now 16 c.type_inv.b c.requires) (lit< tt) tt tt

pub returns : goal.returns
unfolding value
returns c e =
    omega
    (arith, test_lt (value c.product-p.result) (value c.args.a.now) c.at_most.ensures (not-true _ e), c.product-p.ensures)
