-- The search by whole limits finds the fault.
use Rattle.spacing.specs.Verdict.{pair_fault}
use Rattle.spacing.proofs.Faults.{pair_found, passed}
use Rattle.spacing.proofs.view.Measured.pair_fault.Goals as goal

pub returns-in-None : goal.returns-in-None
unfolding pair_fault
returns-in-None c = passed _ _ _ _ (rw (c.least-least.ensures c.args.self.now.view.along c.args.self.now.view.across) at c.in-None.ensures)

pub returns-in-Some : goal.returns-in-Some
unfolding pair_fault
returns-in-Some c = pair_found _ _ _ _ _ (rw (c.least-least.ensures c.args.self.now.view.along c.args.self.now.view.across) at c.in-Some.ensures)
