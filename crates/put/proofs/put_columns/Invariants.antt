use Rattle.numbers.proofs.Bytes.{Stored}
use Rattle.joint.specs.Layout.{columns_bytes}
use Rattle.put.proofs.put_columns.Given as goal

abbrev pub invariant-loop-i : goal.invariant-loop-i
invariant-loop-i l = Stored l.initial.s l.at (columns_bytes l.p.x l.p.y l.i) l.s
