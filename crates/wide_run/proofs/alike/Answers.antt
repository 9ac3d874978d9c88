-- The first of more limbs, all alike, are as many limbs alike.
use Rattle.std.proofs.Common.{rules}
use Prim.Native.Nat.{ℕ}
use Rattle.std.proofs.lemmas.List.{take-replicate}
use Rattle.wide_run.proofs.alike.Goals as goal

pub returns : goal.returns
returns c = search (rules, take-replicate {X = ℕ} c.args.count 32 c.args.limb)
