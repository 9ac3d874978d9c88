use native.Mathlib.Omega.{arith}
use Rattle.wide_run.proofs.Room.{lent, room_both}
use Rattle.wide_run.proofs.write_product_and_sum.Goals as goal

pub multiply_add-requires : goal.multiply_add-requires
multiply_add-requires c =
    let p = c.as_mut_slice-p.result.now in
    let z = lent p c.as_mut_slice-p.ensures.value c.in_ok-room.ensures in
    omega (arith, room_both p c.args.a.now c.args.b.now c.type_inv.a c.type_inv.b z.1, z.0)

pub add_to-requires : goal.add_to-requires
add_to-requires c =
    let k = c.multiply_add.auto.sum in
    let z = lent c.as_mut_slice-p.result.now c.as_mut_slice-p.ensures.value c.in_ok-room.ensures in
    omega
    (arith, room_both c.multiply_add.new.sum c.args.a.now c.args.b.now c.type_inv.a c.type_inv.b (omega (arith, z.1)), z.0, c.multiply_add.ensures)

pub add_to-requires-2 : goal.add_to-requires-2
add_to-requires-2 c =
    let k = c.multiply_add.auto.sum in
    let k2 = c.add_to.auto.sum in
    let z = lent c.as_mut_slice-p.result.now c.as_mut_slice-p.ensures.value c.in_ok-room.ensures in
    omega (
      arith,
      room_both c.add_to.new.sum c.args.a.now c.args.b.now c.type_inv.a c.type_inv.b (omega (arith, z.1)),
      z.0,
      c.multiply_add.ensures,
      c.add_to.ensures,
    )
