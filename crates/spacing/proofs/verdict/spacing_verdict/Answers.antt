-- Member 1 comes first.
use borrow.Author.Rules.{rules}
use mathlib.Core.Path.{◌≡◌}
use Rattle.std.specs.Prelude.{Err}
use Rattle.spacing.specs.Verdict.{spacing_verdict}
use Rattle.spacing.proofs.Faults.{the_first, the_second}
use Rattle.spacing.proofs.verdict.spacing_verdict.Goals as goal

pub returns-in_err-viewed : goal.returns-in_err-viewed
unfolding spacing_verdict
returns-in_err-viewed c = let e : c.from_residual.result ≡ Err c.in_err-viewed.field-0.0 = search rules in
    rw e (the_first _ _ _ c.in_err-viewed.ensures)

pub returns : goal.returns
unfolding spacing_verdict
returns c = the_second _ _ _ c.in_ok-viewed.ensures c.viewed-2.ensures
