-- The search over the dowels is that of the definition.
use borrow.Author.Rules.{rules}
use mathlib.Core.Path.{◌≡◌}
use mathlib.Core.Bool.{true, false}
use native.Mathlib.Omega.{arith}
use Rattle.std.proofs.lemmas.Iterator.{first_from_Range}
use Rattle.spacing.specs.Limits.{outside}
use Rattle.spacing.proofs.Search.{first_is}
use Rattle.spacing.proofs.view.Measured.first_outside.Goals as goal

pub returns : goal.returns
returns c = let k = c.args in
    let s = k.bounds in
    let test = outside s.least s.greatest k.v.now in
    first_is test _ _ _ _ (omega arith)
    (first_from_Range _ _ _ _ (λ j. test j ≡ true) (λ j. test j ≡ false) c.find.ensures.ran (λ x q e. search rules) (λ x q e. search rules))
