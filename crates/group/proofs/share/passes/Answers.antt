-- e^4 has 64 bits.
use mathlib.Core.Path.{◌≡◌, ap, ◌∙◌}
use Prim.Native.Nat.{◌*◌, ◌^◌}
use lib.Dec.{leb}
use Rattle.wide.specs.Natural.{value}
use Rattle.group.proofs.Shares.{fourth}
use Rattle.group.proofs.share.passes.Goals as goal

pub returns : goal.returns
returns c = let e = c.args.e in
    let q = value c.args.q.now in
    let n = value c.args.n.now in
    let tested : c.fifth_power_at_most.result ≡ leb ((e * e * (e * e)) ^ 5 * q) n = c.fifth_power_at_most.ensures in
    tested ∙ ap (λ r. leb (r ^ 5 * q) n) (fourth e)
