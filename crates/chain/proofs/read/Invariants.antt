use Rattle.chain.proofs.Laws.{Upto}
use Rattle.chain.proofs.read.Given as goal

abbrev pub invariant-loop-k : goal.invariant-loop-k
invariant-loop-k l = Upto l.width l.s l.at l.first l.initial.bounds l.k l.bounds l.whole l.start
