-- An axis of a member kept, moved, or negated with its limits and the force: the same distances, and the same asked of its two sides.
use Prim.Native.Nat.{ℕ, ◌<◌}
use native.Mathlib.Omega.{arith}
use borrow.Author.Differences.{ints}
use mathlib.Core.Path.{◌≡◌, refl, ap, ◌∙◌}
use mathlib.Core.Bool.{Bool, ◌&&◌}
use Rattle.std.proofs.Math.Bool.{and_comm}
use mathlib.Core.List.{List}
use lib.IntN.{ℤ, pos, neg_ℤ, nat_abs, ◌+ℤ◌, ◌-ℤ◌, neg_ℤ-neg_ℤ, +ℤ_comm}
use lib.Signed.{le_z}
use Rattle.spacing.specs.declared.view.Frame.{Frame}
use Rattle.spacing.specs.Spacing.{place, distance}
use Rattle.spacing.proofs.Integers.{nat_abs_neg, distance_turned}
use Rattle.laws.specs.Drawn.{OnAxis, place_after, low_after, high_after, force_after}
use Rattle.laws.specs.Drawn.OnAxis.{kept, shifted, negated}

-- the lower and the upper limit on it, the force in its direction, the dowels' places
pub record Axis : Type 0 where
  pub low : ℤ
  pub high : ℤ
  pub force : ℤ
  pub places : List ℤ

-- a member's two: along its grain, and across
abbrev pub lengthwise : Frame → List ℤ → Axis
lengthwise v a = record { low = v.low; high = v.high; force = v.force; places = a }

abbrev pub crosswise : Frame → List ℤ → Axis
crosswise v b = record { low = v.left; high = v.right; force = v.sideways; places = b }

-- y is x in another drawing, with dowel `there i` as dowel i
pub record Carried (n : ℕ) (there : ℕ → ℕ) (o : OnAxis) (x y : Axis) : Type 0 where
  pub low : y.low ≡ low_after o x.low x.high
  pub high : y.high ≡ high_after o x.low x.high
  pub force : y.force ≡ force_after o x.force
  pub places : (i : ℕ) → i < n → place y.places i ≡ place_after o (place x.places (there i))

-- what is asked of the lower side, at the distance inwards from it, and of the upper; whether a side is loaded is asked of the force
abbrev pub between_sides : (Bool → ℤ → Bool) → Axis → ℤ → Bool
between_sides side a z = side (le_z (pos 1) (neg_ℤ a.force)) (z -ℤ a.low) && side (le_z (pos 1) a.force) (a.high -ℤ z)

-- ---- differences
shift_gone : (p q k : ℤ) → p +ℤ k -ℤ (q +ℤ k) ≡ p -ℤ q
shift_gone p q k = omega (arith, ints)

signs_gone : (p q : ℤ) → neg_ℤ p -ℤ neg_ℤ q ≡ q -ℤ p
signs_gone p q = ap (λ z. neg_ℤ p +ℤ z) (neg_ℤ-neg_ℤ q) ∙ +ℤ_comm (neg_ℤ p) q

same_difference : (o : OnAxis) (p q : ℤ) → nat_abs (place_after o p -ℤ place_after o q) ≡ nat_abs (p -ℤ q)
same_difference kept p q = refl
same_difference (shifted k) p q = ap nat_abs (shift_gone p q k)
same_difference negated p q = ap nat_abs (signs_gone p q) ∙ distance_turned p q

pub same_size : (o : OnAxis) (f : ℤ) → nat_abs (force_after o f) ≡ nat_abs f
same_size kept f = refl
same_size (shifted k) f = refl
same_size negated f = nat_abs_neg f

-- what is asked at a place p is asked of it in another drawing
sides_at :
    (side : Bool → ℤ → Bool) (o : OnAxis) (low high f p : ℤ) →
    side (le_z (pos 1) (neg_ℤ (force_after o f))) (place_after o p -ℤ low_after o low high)
    && side (le_z (pos 1) (force_after o f)) (high_after o low high -ℤ place_after o p)
    ≡ side (le_z (pos 1) (neg_ℤ f)) (p -ℤ low) && side (le_z (pos 1) f) (high -ℤ p)
sides_at side kept low high f p = refl
sides_at side (shifted k) low high f p =
    let l : place_after (shifted k) p -ℤ low_after (shifted k) low high ≡ p -ℤ low = shift_gone p low k in
    let h : high_after (shifted k) low high -ℤ place_after (shifted k) p ≡ high -ℤ p = shift_gone high p k in
    rw (l, h) refl
sides_at side negated low high f p =
    let g : neg_ℤ (force_after negated f) ≡ f = neg_ℤ-neg_ℤ f in
    let l : place_after negated p -ℤ low_after negated low high ≡ high -ℤ p = signs_gone p high in
    let h : high_after negated low high -ℤ place_after negated p ≡ p -ℤ low = signs_gone low p in
    rw (g, l, h) (and_comm (side (le_z (pos 1) f) (high -ℤ p)) (side (le_z (pos 1) (neg_ℤ f)) (p -ℤ low)))

module _ {n : ℕ} {there : ℕ → ℕ} {o : OnAxis} {x y : Axis} (c : Carried n there o x y) where
  pub same_distance : (i j : ℕ) → i < n → j < n → distance y.places i j ≡ distance x.places (there i) (there j)
  same_distance i j p q =
      rw (c.places i p, c.places j q) (same_difference o (place x.places (there i)) (place x.places (there j)))

  pub same_force : nat_abs y.force ≡ nat_abs x.force
  same_force = ap nat_abs c.force ∙ same_size o x.force

  pub same_sides :
      (side : Bool → ℤ → Bool) (i : ℕ) → i < n →
      between_sides side y (place y.places i) ≡ between_sides side x (place x.places (there i))
  same_sides side i p =
      rw (c.low, c.high, c.force, c.places i p) (sides_at side o x.low x.high x.force (place x.places (there i)))
