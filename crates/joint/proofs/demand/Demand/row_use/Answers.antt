-- Each product is within 64 bits.
use native.Mathlib.Omega.{arith}
use Prim.Native.Nat.{◌*◌}
use Rattle.std.proofs.Common.{rules}
use Rattle.joint.specs.Returned.{row_use_of}
use Rattle.joint.proofs.UseSizes.{row_divisor, row_some}
use Rattle.joint.proofs.Uses.{ceiling_is}
use Rattle.joint.specs.Told.{demand_told}
use Rattle.joint.proofs.demand.Demand.row_use.Goals as goal

pub overflow_mul-carried-3 : goal.overflow_mul-carried-3
overflow_mul-carried-3 c = omega (arith, row_divisor (demand_told c.args.self) c.args.self.within c.args.m c.requires)

pub returns : goal.returns
unfolding row_use_of
returns c = search (rules, ceiling_is (5200000000000 * c.args.m.along) _ (row_some (demand_told c.args.self) c.args.self.within c.args.m c.requires))
