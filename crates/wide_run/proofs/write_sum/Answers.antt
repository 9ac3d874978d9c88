use native.Mathlib.Omega.{arith}
use Rattle.wide_run.proofs.Room.{lent, room_sum}
use Rattle.wide_run.proofs.write_sum.Goals as goal

pub add_to-requires : goal.add_to-requires
add_to-requires c =
    let s = c.as_mut_slice-s.result.now in
    let z = lent s c.as_mut_slice-s.ensures.value c.in_ok-room.ensures in
    let m = c.max.ensures in
    omega (arith, room_sum s c.args.a.now c.args.b.now c.type_inv.a c.type_inv.b (omega (arith, z.1)) (omega (arith, z.1)), z.0)

pub add_to-requires-2 : goal.add_to-requires-2
add_to-requires-2 c =
    let s = c.add_to.new.sum in
    let k = c.add_to.auto.sum in
    let z = lent c.as_mut_slice-s.result.now c.as_mut_slice-s.ensures.value c.in_ok-room.ensures in
    let m = c.max.ensures in
    omega (arith, room_sum s c.args.a.now c.args.b.now c.type_inv.a c.type_inv.b (omega (arith, z.1)) (omega (arith, z.1)), z.0, c.add_to.ensures)
