-- A member's view in another drawing: its verdict has the same number and member, its rows the same n and a1, its share is the same.
use Prim.Native.Nat.{ℕ, ◌*◌}
use mathlib.Core.Path.{◌≡◌, refl, ap, ap₂}
use mathlib.Core.Bool.{not}
use mathlib.Core.List.{List}
use lib.IntN.{ℤ}
use Rattle.spacing.specs.declared.edge.EdgeRule.{EdgeRule}
use Rattle.spacing.specs.declared.view.Frame.{Frame}
use Rattle.spacing.specs.Spacing.{square, squared_force, place, pair_passes, too_close, end_passes, edge_passes}
use Rattle.spacing.specs.Verdict.{verdict_in}
use Rattle.spacing.proofs.Integers.{distance_turned}
use Rattle.group.specs.Order.{Relisting}
use Rattle.laws.proofs.Rows.{AsFar}
use Rattle.laws.specs.Drawn.{OnAxis}
use Rattle.laws.proofs.Axes.{lengthwise, crosswise, Carried, same_distance, same_force, same_sides}
use Rattle.laws.proofs.Plans.{Like, SameTests, verdict_like}

-- two dowels are too close whichever is named first
close_flips : (v : Frame) (d : ℕ) (a b : List ℤ) (i j : ℕ) → too_close v d a b i j ≡ too_close v d a b j i
close_flips v d a b i j =
    ap₂ (λ p q. not (pair_passes v d p q)) (distance_turned (place a j) (place a i)) (distance_turned (place b j) (place b i))

-- the view v, a, b, and w, a', b' in another drawing
module _ (n : ℕ) (there back : ℕ → ℕ) (r : Relisting n there back) (v w : Frame) (a b a' b' : List ℤ)
    (o o' : OnAxis) (p : Carried n there o (lengthwise v a) (lengthwise w a')) (q : Carried n there o' (crosswise v b) (crosswise w b')) where
  pub as_far : AsFar n a b a' b'
  as_far = record { there = there; back = back; turns = r; along = same_distance p; across = same_distance q }

  part : square w.force ≡ square v.force
  part = ap (λ z. z * z) (same_force p)

  sideways : square w.sideways ≡ square v.sideways
  sideways = ap (λ z. z * z) (same_force q)

  module _ (rule : EdgeRule) (k d : ℕ) where
    tests : SameTests n there back r rule k d v w a b a' b'
    tests = record {
      close = λ i j h l. rw (part, sideways, same_distance p i j h l, same_distance q i j h l) refl;
      end = λ i h.
          rw (part, sideways)
          (ap not (same_sides p (λ s z. end_passes s d (square v.sideways) (squared_force v.force v.sideways) z) i h));
      edge = λ i h.
          rw (part, sideways)
          (ap not (same_sides q (λ s z. edge_passes rule s d (square v.sideways) (squared_force v.force v.sideways) z) i h));
    }

    pub view_like : Like (verdict_in rule k v d a b n) (verdict_in rule k w d a' b' n)
    view_like = verdict_like n there back r rule k d v w a b a' b' tests (close_flips v d a b) (close_flips w d a' b')
