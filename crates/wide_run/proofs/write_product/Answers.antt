use native.Mathlib.Omega.{arith}
use Prim.Native.Nat.{◌*◌}
use lib.ListN.{length}
use Rattle.wide_run.proofs.Room.{room_product, own_bits}
use Rattle.wide_run.proofs.write_product.Goals as goal

pub multiply_add-requires : goal.multiply_add-requires
multiply_add-requires c =
    let a = c.args.a.now in
    let b = c.args.b.now in
    let p = c.in_ok-p.ensures in
    rw c.deref_mut.ensures.value
    (room_product _ (32 * length a) (32 * length b) p.0 (own_bits a c.type_inv.a) (own_bits b c.type_inv.b) (omega (arith, p.1)))
