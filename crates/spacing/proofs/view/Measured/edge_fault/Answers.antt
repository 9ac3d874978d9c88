-- The search by whole limits finds the fault.
use Rattle.spacing.specs.Verdict.{edge_fault}
use Rattle.spacing.proofs.Faults.{one_found, passed}
use Rattle.spacing.proofs.view.Measured.edge_fault.Goals as goal

pub returns-in-None : goal.returns-in-None
unfolding edge_fault
returns-in-None c = passed _ _ _ _ (rw (c.edges-edges.ensures c.args.self.now.view.across) at c.in-None.ensures)

pub returns-in-Some : goal.returns-in-Some
unfolding edge_fault
returns-in-Some c = one_found _ _ _ _ _ (rw (c.edges-edges.ensures c.args.self.now.view.across) at c.in-Some.ensures)
