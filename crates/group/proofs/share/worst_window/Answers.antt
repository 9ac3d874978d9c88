-- The loop's invariant: the row kept passes the shares that the windows passed all pass.
use borrow.Author.Rules.{rules}
use mathlib.Core.Path.{◌≡◌, sym, ap, ◌∙◌}
use mathlib.Core.Bool.{Bool, true, not, and-eq-true_iff}
use mathlib.Core.List.{List}
use Prim.Native.Nat.{ℕ, ◌+◌, ◌-◌, ◌≤◌, ◌<◌}
use native.Mathlib.Omega.{arith}
use lib.Dec.{eqb, lit≤}
use lib.IntN.{ℤ}
use lib.ListN.{length}
use borrow.Author.Tests.{not-true, eqb-true, eqb-false}
use mir.Syntax.{w32}
use mir.Val.{SFits, to_z, of_z}
use mir.Facts.{to_z-of_z}
use Rattle.spacing.specs.Spacing.{place, distance}
use Rattle.spacing.proofs.Integers.{same_place}
use Rattle.group.specs.declared.rows.Row.{Row}
use Rattle.group.specs.Listing.{listed}
use Rattle.group.specs.Share.{in_window, all_to, row_passes, RowHolds, Decides, window_seen, same_start, WorstOf}
use Rattle.group.proofs.Counting.{count_bound}
use Rattle.group.proofs.SeenLaws.{seen_count, seen_least_bound}
use Rattle.group.proofs.Shares.{far_passes, all_on, all_again}
use Rattle.group.proofs.share.worst_window.Goals as goal
use Rattle.group.proofs.share.worst_window.Goals.{then-not-same_start, else-not-same_start}

-- what a pass makes of a window
seen_holds : (a b : List ℤ) (count reach : ℕ) (from : ℤ) → count ≤ 64 → RowHolds (window_seen a b count reach from)
seen_holds a b count reach from most =
    let test = in_window b reach from in
    record {
      most = omega (arith, seen_count test a count, count_bound test count);
      far = seen_least_bound test a count;
    }

-- a window that starts where the one before it did
same_start_place : (starts : List ℤ) (i : ℕ) → same_start starts i ≡ true → (0 < i) × (place starts i ≡ place starts (i - 1))
same_start_place starts i h =
    let p = (and-eq-true_iff (not (eqb i 0)) (eqb (distance starts (i - 1) i) 0)).0 h in
    let n = eqb-false i 0 (not-true (eqb i 0) p.0) in
    (omega (arith, n), sym (same_place (place starts (i - 1)) (place starts i) (eqb-true _ _ p.1)))

-- one window more, and one that starts where the window before it did
module _ (reach : ℕ) (a b : List ℤ) (count : ℕ) (starts : List ℤ) (i : ℕ) (worst : Row) (w : WorstOf reach a b count starts i worst) where
  one_more : (r : Row) → Decides worst (window_seen a b count reach (place starts i)) r → WorstOf reach a b count starts (i + 1) r
  one_more r e = record {
    some = e.some;
    within = e.within;
    passes = λ d k thick h. (rw (w.passes d k thick h) at (e.both d k)) ∙ sym (all_on _ i);
  }

  abbrev passes_at : ℕ → ℕ → ℤ → Bool
  passes_at d k z = row_passes d (window_seen a b count reach z).number (window_seen a b count reach z).least k

  once_more : same_start starts i ≡ true → WorstOf reach a b count starts (i + 1) worst
  once_more h =
      let p = same_start_place starts i h in
      record {
        some = w.some;
        within = w.within;
        passes = λ d k thick q.
            w.passes d k thick q
            ∙ sym (all_again _ i (i - 1) (omega (arith, p.0)) (ap (passes_at d k) p.1));
      }

pub loop-i-init : goal.loop-i-init
unfolding all_to
loop-i-init c = record {
  some = lit≤ tt;
  within = record { most = lit≤ tt; far = lit≤ tt };
  passes = λ d e thick h. far_passes d 1 e thick (lit≤ tt) h;
}

pub deciding-worst-requires : goal.deciding-worst-requires
deciding-worst-requires c = let k = c.args in
    let w = c.loop-i.invariant in
    let l = listed k.holes.now in
    let from = to_z w32 (of_z w32 (place k.starts.now c.loop-i.i)) in
    (w.some, w.within, rw c.window_from.ensures (seen_holds l.along l.across (length k.holes.now) k.reach from c.requires))

pub loop-i-preserved : goal.loop-i-preserved
loop-i-preserved c = let k = c.args in
    let i = c.loop-i.i in
    let w = c.loop-i.invariant in
    let l = listed k.holes.now in
    let n = length k.holes.now in
    elim c.if-not-same_start.branch [
      | then-not-same_start s ↦
          let start : SFits w32 (place k.starts.now i) = search rules in
          rw s.worst-is
          (one_more k.reach l.along l.across n k.starts.now i c.loop-i.worst w _
          (rw (s.window_from.ensures, to_z-of_z start) at s.deciding-worst.ensures))
      | else-not-same_start s ↦
          rw s.worst-is
          (once_more k.reach l.along l.across n k.starts.now i c.loop-i.worst w
          (sym c.same_start.ensures ∙ s.if-not-same_start.false))
    ]
