use lib.ListN.{length-replicate}
use Prim.Native.Nat.{ℕ}
use Rattle.std.proofs.Common.{rules}
use Rattle.wide.proofs.Limbs.{value_zeros}
use Rattle.wide_run.proofs.zeros.Goals as goal

pub returns : goal.returns
returns c = search (rules, value_zeros c.args.count, length-replicate {A = ℕ} c.args.count 0)
