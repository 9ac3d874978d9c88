-- The search over the dowels after i is that of the definition.
use borrow.Author.Rules.{rules}
use mathlib.Core.Path.{◌≡◌}
use mathlib.Core.Bool.{true, false}
use native.Mathlib.Omega.{arith}
use Rattle.std.proofs.lemmas.Iterator.{first_from_Range}
use Rattle.spacing.specs.Search.{partner}
use Rattle.spacing.specs.Limits.{close_by}
use Rattle.spacing.proofs.Search.{first_is}
use Rattle.spacing.proofs.view.Measured.partner.Goals as goal

pub returns : goal.returns
unfolding partner
returns c = let k = c.args in
    let m = k.self.now in
    let test = close_by k.least.along k.least.across m.view.along m.view.across k.i in
    first_is test _ _ _ _ (omega arith)
    (first_from_Range _ _ _ _ (λ j. test j ≡ true) (λ j. test j ≡ false) c.find.ensures.ran (λ x q e. search rules) (λ x q e. search rules))
