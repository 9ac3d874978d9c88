-- Laws of the search: a verdict names the first fault in 01's order, and none where all pass.
use mathlib.Core.Path.{◌≡◌}
use mathlib.Core.Bool.{Bool, false}
use mathlib.Core.List.{List}
use Prim.Native.Nat.{ℕ, ◌+◌, ◌-◌, ◌≤◌, ◌<◌}
use native.Mathlib.Nat.{lt_of_not-le}
use native.Mathlib.Decide.{dec_lt, ℕ_discrete}
use native.Mathlib.Omega.{arith}
use borrow.Author.Tests.{lt-ltb, le-ltb, ltb-true, ltb-false, eq-eqb, ne_eqb}
use lib.IntN.{ℤ}
use Rattle.spacing.specs.declared.edge.EdgeRule.{EdgeRule}
use Rattle.spacing.specs.declared.view.Which.{Which}
use Rattle.spacing.specs.declared.view.Which.TheVariants.{Member1, Member2}
use Rattle.spacing.specs.declared.view.Piece.{Piece}
use Rattle.spacing.specs.declared.view.Frame.{Frame}
use Rattle.spacing.specs.Search.{first_from, partner, first_pair, has_partner}
use Rattle.spacing.proofs.Search.{Finds, finds}
use Rattle.spacing.specs.Spacing.{too_close, end_too_near, edge_too_near}
use Rattle.spacing.specs.Verdict.{Fault, or_else, number_of, pair_fault, end_fault, edge_fault, verdict_in, member_verdict, spacing_verdict}
use Rattle.spacing.specs.Says.{FirstPair, NoPair, FirstOne, NoOne, MemberSays, Says, JointSays}
use Rattle.spacing.specs.Says.MemberSays.{close, end, edge, passes}
use Rattle.spacing.specs.Says.JointSays.{member1, member2}

-- ---- one dowel
module _ (bad : ℕ → Bool) (n : ℕ) where
  all : Finds bad 0 n (first_from bad 0 n)
  all = let s : 0 + n ≡ n = omega arith in rw s at (finds bad 0 n)

  first_one : first_from bad 0 n < n → FirstOne bad n (first_from bad 0 n)
  first_one h = record { within = h; breaks = all.at h; before = λ k q. all.before k (omega arith) q }

  no_one : n ≤ first_from bad 0 n → NoOne bad n
  no_one h k q = all.before k (omega arith) (omega arith)

-- ---- pairs
module _ (bad : ℕ → ℕ → Bool) (n : ℕ) where
  mate : (i : ℕ) → i < n → Finds (bad i) (i + 1) n (partner bad n i)
  unfolding partner
  mate i h = let s : i + 1 + (n - (i + 1)) ≡ n = omega arith in rw s at (finds (bad i) (i + 1) (n - (i + 1)))

  -- a dowel without a partner makes no bad pair
  alone : (k l : ℕ) → k < l → l < n → has_partner bad n k ≡ false → bad k l ≡ false
  alone k l h q e =
      let p = ltb-false (partner bad n k) n e in
      (mate k (omega arith)).before l (omega arith) (omega arith)

  first_two : first_pair bad n < n → FirstPair bad n (first_pair bad n) (partner bad n (first_pair bad n))
  unfolding first_pair
  first_two h =
      let i = first_from (has_partner bad n) 0 n in
      let f = all (has_partner bad n) n in
      let m = mate i h in
      let q = ltb-true (partner bad n i) n (f.at h) in
      record {
        order = omega (arith, m.low);
        within = q;
        breaks = m.at q;
        earlier = λ k l p r s. alone k l r s (f.before k (omega arith) p);
        between = λ l p r. m.before l (omega arith) r;
      }

  no_two : n ≤ first_pair bad n → NoPair bad n
  unfolding first_pair
  no_two h k l p q = alone k l p q ((all (has_partner bad n) n).before k (omega arith) (omega arith))

-- ---- the verdict of a member
module _ (rule : EdgeRule) (member : ℕ) (v : Frame) (d : ℕ) (a b : List ℤ) (n : ℕ) where
  says_edge :
      Dec (first_from (edge_too_near rule v d b) 0 n < n) → NoPair (too_close v d a b) n → NoOne (end_too_near v d a) n →
      MemberSays rule member v d a b n (edge_fault rule member v d b n)
  unfolding edge_fault
  says_edge (yes h) p e = rw (lt-ltb _ _ h) (edge _ p e (first_one (edge_too_near rule v d b) n h))
  says_edge (no h) p e =
      let q : n ≤ first_from (edge_too_near rule v d b) 0 n = omega (arith, lt_of_not-le h) in
      rw (le-ltb _ _ q) (passes p e (no_one (edge_too_near rule v d b) n q))

  says_end :
      Dec (first_from (end_too_near v d a) 0 n < n) → NoPair (too_close v d a b) n →
      MemberSays rule member v d a b n (or_else (end_fault member v d a n) (edge_fault rule member v d b n))
  unfolding end_fault
  says_end (yes h) p = rw (lt-ltb _ _ h) (end _ p (first_one (end_too_near v d a) n h))
  says_end (no h) p =
      let q : n ≤ first_from (end_too_near v d a) 0 n = omega (arith, lt_of_not-le h) in
      rw (le-ltb _ _ q) (says_edge (dec_lt (first_from (edge_too_near rule v d b) 0 n) n) p (no_one (end_too_near v d a) n q))

  says_pair :
      Dec (first_pair (too_close v d a b) n < n) →
      MemberSays rule member v d a b n
      (or_else (pair_fault member v d a b n) (or_else (end_fault member v d a n) (edge_fault rule member v d b n)))
  unfolding pair_fault
  says_pair (yes h) = rw (lt-ltb _ _ h) (close _ _ (first_two (too_close v d a b) n h))
  says_pair (no h) =
      let q : n ≤ first_pair (too_close v d a b) n = omega (arith, lt_of_not-le h) in
      rw (le-ltb _ _ q) (says_end (dec_lt (first_from (end_too_near v d a) 0 n) n) (no_two (too_close v d a b) n q))

  pub verdict_says : MemberSays rule member v d a b n (verdict_in rule member v d a b n)
  unfolding verdict_in
  verdict_says = says_pair (dec_lt (first_pair (too_close v d a b) n) n)

pub member_says :
    (rule : EdgeRule) (which : Which) (m : Piece) (d : ℕ) (fx fy : ℤ) (x y : List ℤ) (n : ℕ) →
    Says rule which m d fx fy x y n (member_verdict rule which m d fx fy x y n)
unfolding member_verdict
member_says rule which m d fx fy x y n = verdict_says rule (number_of which) _ d _ _ n

module _ (rule : EdgeRule) (m₁ m₂ : Piece) (d : ℕ) (fx fy : ℤ) (x y : List ℤ) (n : ℕ) where
  by_member1 :
      (f g : Fault) → Dec (f.number ≡ 0) → Says rule Member1 m₁ d fx fy x y n f → Says rule Member2 m₂ d fx fy x y n g →
      JointSays rule m₁ m₂ d fx fy x y n (or_else f g)
  by_member1 f g (yes h) p q = rw (eq-eqb f.number 0 h) (member2 f g h p q)
  by_member1 f g (no h) p q = rw (ne_eqb f.number 0 h) (member1 f h p)

  pub spacing_says : JointSays rule m₁ m₂ d fx fy x y n (spacing_verdict rule m₁ m₂ d fx fy x y n)
  unfolding spacing_verdict
  spacing_says =
      by_member1 _ _ (ℕ_discrete _ 0) (member_says rule Member1 m₁ d fx fy x y n) (member_says rule Member2 m₂ d fx fy x y n)
