use native.Mathlib.Omega.{arith}
use Rattle.chain.proofs.Laws.{none, more, all}
use Rattle.chain.proofs.read.Goals as goal

pub loop-k-init : goal.loop-k-init
loop-k-init c = none

pub loop-k-preserved : goal.loop-k-preserved
loop-k-preserved c =
    more c.loop-k.invariant c.bytes-size.ensures c.number_at-offset.ensures c.number_at-bytes.ensures c.continues-whole.ensures

pub returns : goal.returns
returns c = all c.loop-k.invariant (omega arith)
