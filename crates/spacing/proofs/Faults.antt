-- The searches by whole limits find the faults of Table 8.
use mathlib.Core.Path.{◌≡◌, refl, sym, ap, ap₂, fun_ext, ◌∙◌}
use mathlib.Core.Bool.{Bool, true, false, cond, not, ◌&&◌}
use mathlib.Core.List.{List}
use Prim.Native.Nat.{ℕ, ◌+◌, ◌≤◌, ◌<◌}
use borrow.Author.Tests.{lt-ltb, le-ltb}
use native.Mathlib.Omega.{arith}
use lib.Dec.{ltb, eqb}
use lib.IntN.{ℤ, pos, neg_ℤ, nat_abs, ◌+ℤ◌, ◌-ℤ◌}
use lib.Signed.{le_z, lt_z}
use mir.Syntax.{w32}
use mir.Val.{SFits, to_z, of_z}
use mir.Facts.{to_z-of_z}
use Rattle.spacing.specs.declared.view.Which.{Which}
use Rattle.spacing.specs.declared.view.Which.TheVariants.{Member1, Member2}
use Rattle.spacing.specs.declared.view.Piece.{Piece}
use Rattle.spacing.specs.declared.view.View.{View}
use Rattle.std.specs.Prelude.{Some}
use Rattle.spacing.specs.declared.verdict.Fault.{Fault as Refusal}
use Rattle.spacing.specs.declared.verdict.Fault.TheVariants.{DowelsTooClose, EndTooNear, EdgeTooNear}
use Rattle.spacing.specs.Search.{partner, first_pair, PairIs}
use Rattle.spacing.specs.Spacing.{along, across, force_in, view_of, place, Components}
use Rattle.spacing.specs.Limits.{SideLimit, outside}
use Rattle.spacing.specs.Verdict.{Fault, fault, one_dowel, or_else, fault_of}
use Rattle.spacing.proofs.Integers.{nat_abs_neg, small_read, inwards, outwards, above_zero, below_zero}

-- ---- bounds test what a rule tests at both sides, low and high, of which a component f of the force loads one
same_sides :
    (low high : ℤ) (under over : ℕ) (near far : ℤ → Bool) (v : List ℤ) → SideLimit near under → SideLimit far over →
    outside (low +ℤ pos under) (high -ℤ pos over) v ≡ (λ i. not (near (place v i -ℤ low) && far (high -ℤ place v i)))
same_sides low high under over near far v l h =
    fun_ext λ i.
    let z = place v i in
    ap₂ (λ s t. not (s && t)) (sym (l.decides (z -ℤ low) ∙ inwards under low z)) (sym (h.decides (high -ℤ z) ∙ outwards over z high))

abbrev read : ℤ → ℤ
read z = to_z w32 (of_z w32 z)

pub bounds_are :
    (passes : Bool → ℤ → Bool) (low high f : ℤ) {under over : ℕ} {least greatest : ℤ} → SFits w32 low → SFits w32 high → nat_abs f ≤ 1000000 →
    (least ≡ read low +ℤ pos under) × (greatest ≡ read high -ℤ pos over) →
    SideLimit (passes (lt_z (read f) (pos 0))) under → SideLimit (passes (lt_z (pos 0) (read f))) over →
    (v : List ℤ) →
    outside least greatest v ≡ (λ i. not (passes (le_z (pos 1) (neg_ℤ f)) (place v i -ℤ low) && passes (le_z (pos 1) f) (high -ℤ place v i)))
bounds_are passes low high f {under} {over} l h small e p q v =
    let r = small_read f small in
    rw (e.0, e.1, to_z-of_z l, to_z-of_z h)
    (same_sides low high under over _ _ v (rw (r, below_zero f) at p) (rw (r, above_zero f) at q))

-- ---- what the search answers is the fault
picked : (i n : ℕ) (f g : Fault) → i < n → f ≡ cond (ltb i n) f g
picked i n f g h = rw (lt-ltb i n h)

pub passed : (i n : ℕ) (f g : Fault) → n ≤ i → g ≡ cond (ltb i n) f g
passed i n f g h = rw (le-ltb i n h)

pub pair_found :
    (member n i j : ℕ) (pair : ℕ → ℕ → Bool) → PairIs (Some (i, j)) pair n →
    fault 10 member (i + 1) (j + 1)
    ≡ cond (ltb (first_pair pair n) n) (fault 10 member (first_pair pair n + 1) (partner pair n (first_pair pair n) + 1)) (fault 0 0 0 0)
pair_found member n i j pair h = rw (← h.0, ← h.2) (picked i n _ _ h.1)

pub one_found :
    (number member first n i : ℕ) → (i ≡ first) × (i < n) → fault number member (i + 1) 0 ≡ one_dowel number member first n
one_found number member first n i h = rw (← h.0) (picked i n _ _ h.1)

-- ---- one fault after another
pub the_first : (e : Refusal) (f g : Fault) → fault_of e ≡ f → fault_of e ≡ or_else f g
the_first (DowelsTooClose member i j) f g h = rw (← h)
the_first (EndTooNear member i) f g h = rw (← h)
the_first (EdgeTooNear member i) f g h = rw (← h)

pub the_second : (f s g : Fault) → fault 0 0 0 0 ≡ f → s ≡ g → s ≡ or_else f g
the_second f s g h p = rw (← h) p

-- ---- a member's own directions
force_size : (which : Which) (z : ℤ) → nat_abs (force_in which z) ≡ nat_abs z
force_size Member1 z = nat_abs_neg z
force_size Member2 z = refl

-- the size of the force along is that of the record's force along the grain
pub view_force :
    (which : Which) (m : Piece) (fx fy : ℤ) (x y : List ℤ) (v : View) → v ≡ view_of which m fx fy x y →
    nat_abs v.frame.force ≡ nat_abs (along m.grain fx fy)
view_force which m fx fy x y v e = ap (λ (w : View). nat_abs w.frame.force) e ∙ force_size which (along m.grain fx fy)

turned_components : (d : ℕ) (b : Bool) (fx fy : ℤ) → Components d fx fy → Components d (cond b fx fy) (cond b fy fx)
turned_components d true fx fy h = h
turned_components d false fx fy h = record {
  thick = h.thick;
  x_small = h.y_small;
  y_small = h.x_small;
  some = omega (arith, h.some);
}

-- the force in a member is within the limits of the record's force
pub view_components :
    (which : Which) (d : ℕ) (m : Piece) (fx fy : ℤ) (x y : List ℤ) (v : View) → v ≡ view_of which m fx fy x y →
    Components d fx fy → Components d v.frame.force v.frame.sideways
view_components which d m fx fy x y v e h =
    let k = turned_components d (eqb m.grain 0) fx fy h in
    let f = force_size which (along m.grain fx fy) in
    let s = force_size which (across m.grain fx fy) in
    rw e (record { thick = k.thick; x_small = rw f k.x_small; y_small = rw s k.y_small; some = rw (f, s) k.some })
