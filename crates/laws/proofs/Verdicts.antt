-- The verdict by Eurocode is that by Table 8, or it is a 12.
use Prim.Native.Nat.{ℕ, ◌≤◌, ◌<◌}
use mathlib.Core.Path.{◌≡◌, refl, sym, ap, ◌∙◌}
use mathlib.Core.Bool.{Bool, true, false, not, true≢false, and-eq-true_iff}
use mathlib.Core.List.{List}
use mathlib.Core.Logic.{◌⊎◌, inl, inr}
use native.Mathlib.Nat.{lt_of_not-le}
use native.Mathlib.Decide.{dec_lt, dec_le}
use native.Mathlib.Omega.{arith}
use borrow.Author.Tests.{lt-ltb, le-ltb, ne_eqb, not-false}
use lib.Dec.{eqb}
use lib.IntN.{ℤ}
use Rattle.spacing.specs.declared.edge.EdgeRule.TheVariants.{Table8, Eurocode}
use Rattle.spacing.specs.declared.view.Which.{Which}
use Rattle.spacing.specs.declared.view.Which.TheVariants.{Member1, Member2}
use Rattle.spacing.specs.declared.view.Piece.{Piece}
use Rattle.spacing.specs.declared.view.Frame.{Frame}
use Rattle.spacing.specs.Spacing.{along, across, frame_of, place, edge_passes, edges_pass, edge_too_near}
use Rattle.spacing.specs.Search.{first_from}
use Rattle.spacing.specs.Verdict.{Fault, or_else, number_of, pair_fault, end_fault, edge_fault, verdict_in, member_verdict, spacing_verdict}
use Rattle.spacing.proofs.Search.{finds}

-- f by Table 8, and g by Eurocode
abbrev pub Alone : Fault → Fault → Type 0
Alone f g = (g ≡ f) ⊎ (g.number ≡ 12)

-- ---- an edge
looser : (loaded : Bool) (d part total : ℕ) (z : ℤ) → edge_passes Eurocode loaded d part total z ≡ true → edge_passes Table8 loaded d part total z ≡ true
unfolding edge_passes
looser true d part total z h = ((and-eq-true_iff _ _).0 h).1
looser false d part total z h = h

module _ (v : Frame) (d : ℕ) (b : List ℤ) (n : ℕ) where
  passing : (i : ℕ) → edge_too_near Eurocode v d b i ≡ false → edge_too_near Table8 v d b i ≡ false
  passing i h =
      let p = (and-eq-true_iff _ _).0 (not-false (edges_pass Eurocode v d (place b i)) h) in
      ap not ((and-eq-true_iff _ _).1 (looser _ _ _ _ _ p.0, looser _ _ _ _ _ p.1))

  -- where Eurocode names no dowel, Table 8 names none
  none : n ≤ first_from (edge_too_near Eurocode v d b) 0 n → n ≤ first_from (edge_too_near Table8 v d b) 0 n
  none h = go (dec_le n (first_from (edge_too_near Table8 v d b) 0 n))
    where
      go : Dec (n ≤ first_from (edge_too_near Table8 v d b) 0 n) → n ≤ first_from (edge_too_near Table8 v d b) 0 n
      go (yes p) = p
      go (no p) =
          let i = first_from (edge_too_near Table8 v d b) 0 n in
          let l : i < n = lt_of_not-le p in
          let f = finds (edge_too_near Table8 v d b) 0 n in
          let g = finds (edge_too_near Eurocode v d b) 0 n in
          absurd (true≢false (sym (f.at (omega (arith, l))) ∙ passing i (g.before i (omega arith) (omega (arith, l, h)))))

  edge_alone : (member : ℕ) → Alone (edge_fault Table8 member v d b n) (edge_fault Eurocode member v d b n)
  unfolding edge_fault
  edge_alone member = go (dec_lt (first_from (edge_too_near Eurocode v d b) 0 n) n)
    where
      go : Dec (first_from (edge_too_near Eurocode v d b) 0 n < n) → Alone (edge_fault Table8 member v d b n) (edge_fault Eurocode member v d b n)
      go (yes h) = inr (rw (lt-ltb _ _ h) refl)
      go (no h) =
          let q : n ≤ first_from (edge_too_near Eurocode v d b) 0 n = omega (arith, lt_of_not-le h) in
          inl (rw (le-ltb _ _ q, le-ltb _ _ (none q)) refl)

-- ---- one fault after another
after : (e f g : Fault) → Alone f g → Alone (or_else e f) (or_else e g)
after e f g (inl h) = inl (ap (λ (z : Fault). or_else e z) h)
after e f g (inr h) = of (eqb e.number 0) refl
  where
    of : (b : Bool) → eqb e.number 0 ≡ b → Alone (or_else e f) (or_else e g)
    of true q = inr (rw q h)
    of false q = inl (rw q refl)

both : (f g h k : Fault) → Alone f g → Alone h k → Alone (or_else f h) (or_else g k)
both f g h k (inl e) a = rw e (after f h k a)
both f g h k (inr e) a = inr (rw (ne_eqb g.number 0 (λ z. omega arith)) e)

-- ---- the verdicts
module _ (d : ℕ) (fx fy : ℤ) (x y : List ℤ) (n : ℕ) where
  member_alone : (which : Which) (m : Piece) → Alone (member_verdict Table8 which m d fx fy x y n) (member_verdict Eurocode which m d fx fy x y n)
  unfolding member_verdict verdict_in
  member_alone which m =
      let v = frame_of which m fx fy in
      let a = along m.grain x y in
      let b = across m.grain x y in
      let k = number_of which in
      after (pair_fault k v d a b n) _ _ (after (end_fault k v d a n) _ _ (edge_alone v d b n k))

  pub spacing_alone : (m₁ m₂ : Piece) → Alone (spacing_verdict Table8 m₁ m₂ d fx fy x y n) (spacing_verdict Eurocode m₁ m₂ d fx fy x y n)
  unfolding spacing_verdict
  spacing_alone m₁ m₂ = both _ _ _ _ (member_alone Member1 m₁) (member_alone Member2 m₂)
