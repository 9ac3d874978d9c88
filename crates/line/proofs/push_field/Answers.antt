-- A space, then the digits that the kit writes.
use Rattle.std.proofs.Common.{◌∙◌, ap, ◌++◌, append_assoc, ◌∷◌}
use Rattle.line.proofs.Decimal.{decimal_is}
use Rattle.line.proofs.push_field.Goals as goal

pub returns-clause-bytes : goal.returns-clause-bytes
returns-clause-bytes c =
    let start = c.args.line.now.bytes in
    c.push_str-2.ensures.bytes ∙ ap (λ t. t ++ c.format.result.now) c.push_str.ensures.bytes ∙ append_assoc start _ _
    ∙ ap (λ d. start ++ 32 ∷ d) (c.format.ensures.text ∙ decimal_is c.args.n c.ranges.n.fits)
