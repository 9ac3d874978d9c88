-- The windows are seen in the dowels' order along, and the share that comes back lies in its bracket.
use borrow.Author.Rules.{rules}
use borrow.Kind.Array.{e_s_int, good_length}
use mir.Syntax.{w32}
use mathlib.Core.Path.{◌≡◌, ◌∙◌}
use native.Mathlib.Omega.{arith}
use lib.ListN.{length, take}
use Rattle.std.proofs.lemmas.List.{length-take, get_or-take}
use Rattle.group.proofs.Bracket.{share_bracket}
use Rattle.group.proofs.OrderLaws.{first_ones}
use Rattle.group.proofs.Windows.{worst_share}
use Rattle.group.proofs.share.member_share.Goals as goal

pub returns : goal.returns
returns c = let v = c.args in
    let n = v.count in
    let holes = c.in_order-holes.result in
    let long : length holes ≡ 64 = search rules in
    let first : length (take n holes) ≡ n = length-take n holes ∙ omega (arith, long, c.requires.most) in
    let long_b : length v.b ≡ 64 = good_length (e_s_int w32) 64 v.b _ c.well_formed.1.1.1.0 in
    let starts : length (take n v.b) ≡ n = length-take n v.b ∙ omega (arith, long_b, c.requires.most) in
    let ordered = first_ones v.a v.b n holes (omega (arith, long, c.requires.most)) c.in_order-holes.ensures in
    let is =
    worst_share v.a v.b n _ ordered v.d v.reach (take n v.b) c.worst_window.result _ c.requires.thick
    (λ i q. get_or-take n v.b i _ q) (rw (first, starts) at c.worst_window.ensures) c.row_share.ensures in
    record { bracket = rw is (share_bracket _ _ _ _ _ c.requires); is = is }
