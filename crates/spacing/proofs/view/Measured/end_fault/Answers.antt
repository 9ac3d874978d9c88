-- The search by whole limits finds the fault.
use Rattle.spacing.specs.Verdict.{end_fault}
use Rattle.spacing.proofs.Faults.{one_found, passed}
use Rattle.spacing.proofs.view.Measured.end_fault.Goals as goal

pub returns-in-None : goal.returns-in-None
unfolding end_fault
returns-in-None c = passed _ _ _ _ (rw (c.ends-ends.ensures c.args.self.now.view.along) at c.in-None.ensures)

pub returns-in-Some : goal.returns-in-Some
unfolding end_fault
returns-in-Some c = one_found _ _ _ _ _ (rw (c.ends-ends.ensures c.args.self.now.view.along) at c.in-Some.ensures)
