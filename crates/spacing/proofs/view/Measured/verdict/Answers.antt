-- The first fault in the order 10, 11, 12.
use borrow.Author.Rules.{rules}
use mathlib.Core.Path.{◌≡◌}
use Rattle.std.specs.Prelude.{Err}
use Rattle.spacing.specs.Verdict.{verdict_in}
use Rattle.spacing.proofs.Faults.{the_first, the_second}
use Rattle.spacing.proofs.view.Measured.verdict.Goals as goal

pub returns-in_err-pair_fault : goal.returns-in_err-pair_fault
unfolding verdict_in
returns-in_err-pair_fault c = let e : c.from_residual.result ≡ Err c.in_err-pair_fault.field-0.0 = search rules in
    rw e (the_first _ _ _ c.in_err-pair_fault.ensures)

pub returns-in_err-end_fault : goal.returns-in_err-end_fault
unfolding verdict_in
returns-in_err-end_fault c = let e : c.from_residual-in_err-end_fault.result ≡ Err c.in_err-end_fault.field-0.0 = search rules in
    rw e (the_second _ _ _ c.in_ok-pair_fault.ensures (the_first _ _ _ c.in_err-end_fault.ensures))

pub returns : goal.returns
unfolding verdict_in
returns c = the_second _ _ _ c.in_ok-pair_fault.ensures (the_second _ _ _ c.in_ok-end_fault.ensures c.edge_fault.ensures)
