-- What is kept is that of the pass over the dowels so far.
use borrow.Author.Rules.{rules}
use mathlib.Core.Path.{◌≡◌, sym, ap₂, ◌∙◌}
use native.Mathlib.Omega.{arith}
use lib.ListN.{length, get_or}
use mir.Syntax.{w32}
use mir.Val.{SFits, to_z, of_z}
use mir.Facts.{to_z-of_z}
use Rattle.group.specs.Listing.{listed}
use Rattle.group.specs.Share.{in_window}
use Rattle.group.proofs.Counting.{count_bound}
use Rattle.group.proofs.OrderLaws.{none, at_place}
use Rattle.group.proofs.SeenLaws.{kept_none, kept_passed, kept_longer, seen_count}
use Rattle.group.proofs.rows.window_from.Goals as goal
use Rattle.group.proofs.rows.window_from.Goals.{then-within_reach, else-within_reach}

pub loop-hole-init : goal.loop-hole-init
loop-hole-init c = kept_none _ _

pub longer-row-requires : goal.longer-row-requires
longer-row-requires c = let k = c.args in
    let l = listed k.holes.now in
    let j = c.loop-hole.hole-index in
    let test = in_window l.across k.reach (to_z w32 (of_z w32 k.from)) in
    omega (arith, c.loop-hole.invariant.number, seen_count test l.along j, count_bound test j, c.loop-hole-test.true, c.requires)

pub loop-hole-preserved : goal.loop-hole-preserved
loop-hole-preserved c = let k = c.args in
    let j = c.loop-hole.hole-index in
    let hole = get_or k.holes.now j none in
    let along : SFits w32 hole.along = search rules in
    let across : SFits w32 hole.across = search rules in
    let at = at_place (λ h. h.along) k.holes.now j c.loop-hole-test.true in
    let beside = at_place (λ h. h.across) k.holes.now j c.loop-hole-test.true in
    let inside = rw (to_z-of_z across, ← beside) at c.within_reach.ensures in
    elim c.if-within_reach.branch [
      | then-within_reach w ↦
          rw (w.row-is, w.last-is, w.longer-row.ensures, to_z-of_z along, ← at)
          (kept_longer _ _ j c.loop-hole.last (sym inside ∙ w.if-within_reach.true) c.loop-hole.invariant)
      | else-within_reach w ↦
          rw (w.row-is, w.last-is) (kept_passed _ _ j (sym inside ∙ w.if-within_reach.false) c.loop-hole.invariant)
    ]

pub returns : goal.returns
returns c = let e : c.loop-hole.hole-index ≡ length c.args.holes.now = omega (arith, c.loop-hole.auto, c.loop-hole-test.false) in
    let i = rw (e, to_z-of_z c.ranges.from) at c.loop-hole.invariant in
    ap₂ (λ n l. record { number = n; least = l }) i.number i.least
