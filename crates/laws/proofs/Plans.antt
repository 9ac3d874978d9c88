-- Where the tests of a member's dowels are those of another drawing's, dowel for dowel, the verdict has the same number and member.
use Prim.Native.Nat.{ℕ, ◌+◌, ◌-◌, ◌≤◌, ◌<◌}
use mathlib.Core.Path.{◌≡◌, refl, sym, ap, ap₂, ◌∙◌}
use mathlib.Core.Bool.{Bool, true, false, cond, true≢false}
use mathlib.Core.List.{List}
use native.Mathlib.Nat.{lt_of_not-le}
use native.Mathlib.Decide.{dec_lt}
use native.Mathlib.Omega.{arith}
use borrow.Author.Tests.{lt-ltb, le-ltb, ltb-true}
use lib.Dec.{ltb, eqb}
use lib.IntN.{ℤ}
use Rattle.spacing.specs.declared.edge.EdgeRule.{EdgeRule}
use Rattle.spacing.specs.declared.view.Frame.{Frame}
use Rattle.spacing.specs.Spacing.{too_close, end_too_near, edge_too_near}
use Rattle.spacing.specs.Search.{first_from, partner, has_partner, first_pair}
use Rattle.spacing.specs.Verdict.{Fault, fault, or_else, pair_fault, end_fault, edge_fault, verdict_in}
use Rattle.spacing.proofs.Search.{finds}
use Rattle.group.specs.Order.{Relisting}

-- ---- faults that name the same number and member
pub record Like (f g : Fault) : Type 0 where
  pub number : g.number ≡ f.number
  pub member : g.member ≡ f.member

either : (s t : Bool) → t ≡ s → (k m i j i' j' : ℕ) → Like (cond s (fault k m i j) (fault 0 0 0 0)) (cond t (fault k m i' j') (fault 0 0 0 0))
either s t e k m i j i' j' = rw e (go s)
  where
    go : (b : Bool) → Like (cond b (fault k m i j) (fault 0 0 0 0)) (cond b (fault k m i' j') (fault 0 0 0 0))
    go true = record { number = refl; member = refl }
    go false = record { number = refl; member = refl }

pub after : (f f' g g' : Fault) → Like f f' → Like g g' → Like (or_else f g) (or_else f' g')
after f f' g g' p q = go (eqb f.number 0) (eqb f'.number 0) (ap (λ z. eqb z 0) p.number)
  where
    go : (s t : Bool) → t ≡ s → Like (cond s g f) (cond t g' f')
    go true true e = q
    go false false e = p
    go true false e = absurd (true≢false (sym e))
    go false true e = absurd (true≢false e)

-- ---- what is found
-- a search ends below the end where its test holds for one
found : (test : ℕ → Bool) (k left i : ℕ) → k ≤ i → i < k + left → test i ≡ true → first_from test k left < k + left
found test k left i p q e = go (dec_lt (first_from test k left) (k + left))
  where
    go : Dec (first_from test k left < k + left) → first_from test k left < k + left
    go (yes h) = h
    go (no h) = absurd (true≢false (sym e ∙ (finds test k left).before i p (omega (arith, q, lt_of_not-le h))))

-- from the first on
found_first : (test : ℕ → Bool) (n i : ℕ) → i < n → test i ≡ true → first_from test 0 n < n
found_first test n i q e =
    let z : 0 + n ≡ n = omega arith in rw z at (found test 0 n i (omega arith) (rw z q) e)

holds_first : (test : ℕ → Bool) (n : ℕ) → first_from test 0 n < n → test (first_from test 0 n) ≡ true
holds_first test n h = let z : 0 + n ≡ n = omega arith in (finds test 0 n).at (rw z h)

-- two that are bad together
record Pair (bad : ℕ → ℕ → Bool) (n : ℕ) : Type 0 where
  one : ℕ
  two : ℕ
  order : one < two
  within : two < n
  breaks : bad one two ≡ true

pair_found : (bad : ℕ → ℕ → Bool) (n : ℕ) → Pair bad n → first_pair bad n < n
unfolding first_pair partner
pair_found bad n p =
    let i = p.one in
    let e : i + 1 + (n - (i + 1)) ≡ n = omega (arith, p.order, p.within) in
    let q = rw e at (found (bad i) (i + 1) (n - (i + 1)) p.two (omega (arith, p.order)) (rw e p.within) p.breaks) in
    found_first (has_partner bad n) n i (omega (arith, p.order, p.within)) (lt-ltb (partner bad n i) n q)

pair_of : (bad : ℕ → ℕ → Bool) (n : ℕ) → first_pair bad n < n → Pair bad n
unfolding first_pair partner
pair_of bad n h =
    let i = first_pair bad n in
    let q = ltb-true (partner bad n i) n (holds_first (has_partner bad n) n h) in
    let f = finds (bad i) (i + 1) (n - (i + 1)) in
    record { one = i; two = partner bad n i; order = omega (arith, f.low); within = q; breaks = f.at (omega (arith, q, h)) }

-- tests of two numbers that pass together
together : (x y n : ℕ) → (x < n → y < n) → (y < n → x < n) → ltb y n ≡ ltb x n
together x y n f g = go (dec_lt x n)
  where
    go : Dec (x < n) → ltb y n ≡ ltb x n
    go (yes h) = lt-ltb y n (f h) ∙ sym (lt-ltb x n h)
    go (no h) = le-ltb y n (le_of_not (λ q. h (g q))) ∙ sym (le-ltb x n (le_of_not h))
      where
        le_of_not : {k m : ℕ} → (k < m → ⊥) → m ≤ k
        le_of_not {k} {m} u = omega (arith, lt_of_not-le u)

module _ (n : ℕ) (there back : ℕ → ℕ) (r : Relisting n there back) where
  -- a dowel is bad where that is to which it leads
  module _ (bad bad' : ℕ → Bool) (same : (i : ℕ) → i < n → bad' i ≡ bad (there i)) where
    some_one : ltb (first_from bad' 0 n) n ≡ ltb (first_from bad 0 n) n
    some_one =
        together (first_from bad 0 n) (first_from bad' 0 n) n
        (λ h.
        let i = first_from bad 0 n in
        found_first bad' n (back i) (r.back_within i h)
        (same (back i) (r.back_within i h) ∙ ap bad (r.there_back i h) ∙ holds_first bad n h))
        (λ h.
        let i = first_from bad' 0 n in
        found_first bad n (there i) (r.there_within i h) (sym (same i h) ∙ holds_first bad' n h))

  -- two are bad together where those are to which they lead, whichever of these comes first
  module _ (bad bad' : ℕ → ℕ → Bool) (same : (i j : ℕ) → i < n → j < n → bad' i j ≡ bad (there i) (there j))
      (flips : (i j : ℕ) → bad i j ≡ bad j i) (flips' : (i j : ℕ) → bad' i j ≡ bad' j i) where
    in_order : (b : ℕ → ℕ → Bool) → ((i j : ℕ) → b i j ≡ b j i) → (i j : ℕ) → i < n → j < n → (i ≡ j → ⊥) → b i j ≡ true → Pair b n
    in_order b f i j p q d e = go (dec_lt i j)
      where
        go : Dec (i < j) → Pair b n
        go (yes h) = record { one = i; two = j; order = h; within = q; breaks = e }
        go (no h) = record {
          one = j;
          two = i;
          order = before (dec_lt j i);
          within = p;
          breaks = f j i ∙ e;
        }
          where
            before : Dec (j < i) → j < i
            before (yes k) = k
            before (no k) = absurd (d (omega (arith, lt_of_not-le h, lt_of_not-le k)))

    leads : Pair bad' n → Pair bad n
    leads p =
        let i = p.one in
        let j = p.two in
        let h : i < n = omega (arith, p.order, p.within) in
        in_order bad flips (there i) (there j) (r.there_within i h) (r.there_within j p.within)
        (λ e. omega (arith, p.order, sym (r.back_there i h) ∙ ap back e ∙ r.back_there j p.within))
        (sym (same i j h p.within) ∙ p.breaks)

    comes : Pair bad n → Pair bad' n
    comes p =
        let i = p.one in
        let j = p.two in
        let h : i < n = omega (arith, p.order, p.within) in
        in_order bad' flips' (back i) (back j) (r.back_within i h) (r.back_within j p.within)
        (λ e. omega (arith, p.order, sym (r.there_back i h) ∙ ap there e ∙ r.there_back j p.within))
        (same (back i) (back j) (r.back_within i h) (r.back_within j p.within)
        ∙ ap₂ bad (r.there_back i h) (r.there_back j p.within)
        ∙ p.breaks)

    some_pair : ltb (first_pair bad' n) n ≡ ltb (first_pair bad n) n
    some_pair =
        together (first_pair bad n) (first_pair bad' n) n
        (λ h. pair_found bad' n (comes (pair_of bad n h))) (λ h. pair_found bad n (leads (pair_of bad' n h)))

  -- ---- a member's verdict
  module _ (rule : EdgeRule) (k d : ℕ) (v w : Frame) (a b a' b' : List ℤ) where
    -- the tests of the second drawing are those of the first, dowel for dowel
    pub record SameTests : Type 0 where
      pub close : (i j : ℕ) → i < n → j < n → too_close w d a' b' i j ≡ too_close v d a b (there i) (there j)
      pub end : (i : ℕ) → i < n → end_too_near w d a' i ≡ end_too_near v d a (there i)
      pub edge : (i : ℕ) → i < n → edge_too_near rule w d b' i ≡ edge_too_near rule v d b (there i)

    pub verdict_like :
        SameTests → ((i j : ℕ) → too_close v d a b i j ≡ too_close v d a b j i) → ((i j : ℕ) → too_close w d a' b' i j ≡ too_close w d a' b' j i) →
        Like (verdict_in rule k v d a b n) (verdict_in rule k w d a' b' n)
    unfolding verdict_in pair_fault end_fault edge_fault
    verdict_like s f f' =
        after _ _ _ _
        (either _ _ (some_pair (too_close v d a b) (too_close w d a' b') s.close f f') 10 k _ _ _ _)
        (after _ _ _ _
        (either _ _ (some_one (end_too_near v d a) (end_too_near w d a') s.end) 11 k _ _ _ _)
        (either _ _ (some_one (edge_too_near rule v d b) (edge_too_near rule w d b') s.edge) 12 k _ _ _ _))
