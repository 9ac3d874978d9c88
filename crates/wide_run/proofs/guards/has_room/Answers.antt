-- What it answers true for is below the largest number of so many limbs.
use Rattle.std.proofs.Common.{rules}
use native.Mathlib.Omega.{arith}
use Rattle.wide.specs.Natural.{value}
use Rattle.wide.proofs.Tests.{test_le}
use Rattle.wide.proofs.Limbs.{weight_length}
use Rattle.wide_run.proofs.Room.{below}
use Rattle.wide_run.proofs.guards.has_room.Goals as goal

pub returns-then-at_most : goal.returns-then-at_most
returns-then-at_most c e =
    let room = c.args.room.now in
    omega (
      arith,
      test_le (value c.args.b.now) (value c.subtract_from.new.rest) c.at_most-then-at_most.ensures e,
      c.subtract_from.ensures,
      below room (search rules),
      weight_length room c.args.a.now c.requires,
    )
