use native.Mathlib.Omega.{arith}
use Prim.Native.Nat.{◌*◌}
use lib.ListN.{length}
use Rattle.wide_run.proofs.Room.{room_product, own_bits}
use Rattle.wide_run.proofs.write_product_u64.Goals as goal

pub multiply_add_u64-requires : goal.multiply_add_u64-requires
multiply_add_u64-requires c =
    let a = c.args.a.now in
    let p = c.in_ok-p.ensures in
    rw c.deref_mut.ensures.value
    (room_product _ (32 * length a) 64 p.0 (own_bits a c.type_inv.a) c.ranges.m.fits (omega (arith, p.1)))
