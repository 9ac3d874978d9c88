-- The number of dowels that pass a test and their least distance do not depend on the order in which the dowels are listed.
use Prim.Native.Nat.{ℕ, zero, suc, ◌+◌, ◌≤◌, ◌<◌}
use mathlib.Core.Path.{◌≡◌, refl, sym, ap, ◌∙◌}
use mathlib.Core.Bool.{Bool, true, false, cond, not, ◌&&◌}
use mathlib.Core.List.{List}
use native.Mathlib.Nat.{lt_of_not-le, le_antisymm}
use native.Mathlib.Decide.{dec_lt}
use native.Mathlib.Omega.{arith}
use lib.Dec.{eqb}
use lib.IntN.{ℤ}
use borrow.Author.Tests.{eq-eqb, ne_eqb}
use Rattle.spacing.specs.Spacing.{place}
use Rattle.group.specs.Rows.{count_to}
use Rattle.group.specs.Order.{Relisting}
use Rattle.group.specs.Listing.{Listed, Relisted}
use Rattle.group.specs.Share.{within_reach, in_window, closest_to, window_number, window_closest, farthest}
use Rattle.group.proofs.Counting.{closest_bound, closest_least, closest_from}

-- a map that leads different ones of those below m that pass a test to different ones below n that pass another
record Into (t u : ℕ → Bool) (σ : ℕ → ℕ) (m n : ℕ) : Type 0 where
  within : (i : ℕ) → i < m → σ i < n
  passes : (i : ℕ) → i < m → t i ≡ true → u (σ i) ≡ true
  one : (i j : ℕ) → i < m → j < m → σ i ≡ σ j → i ≡ j

-- ---- the number
abbrev less : (ℕ → Bool) → ℕ → ℕ → Bool
less u j i = u i && not (eqb i j)

-- tests that agree count alike
same_count : (t u : ℕ → Bool) (n : ℕ) → ((i : ℕ) → i < n → t i ≡ u i) → count_to t n ≡ count_to u n
unfolding count_to
same_count t u zero h = refl
same_count t u (suc n) h = rw (h n (omega arith), same_count t u n (λ i q. h i (omega arith))) refl

other_stays : (a : Bool) (i j : ℕ) → (i ≡ j → ⊥) → a && not (eqb i j) ≡ a
other_stays true i j h = rw (ne_eqb i j h) refl
other_stays false i j h = refl

-- one fewer without one that passes
removed : (u : ℕ → Bool) (j n : ℕ) → j < n → u j ≡ true → count_to u n ≡ suc (count_to (less u j) n)
unfolding count_to
removed u j zero h e = absurd (omega arith)
removed u j (suc n) h e = go (λ q. removed u j n q e) (dec_lt j n)
  where
    pick : (a : Bool) (x y : ℕ) → x ≡ suc y → cond a (x + 1) x ≡ suc (cond a (y + 1) y)
    pick true x y q = omega arith
    pick false x y q = q

    go : (j < n → count_to u n ≡ suc (count_to (less u j) n)) → Dec (j < n) →
        cond (u n) (count_to u n + 1) (count_to u n) ≡ suc (cond (less u j n) (count_to (less u j) n + 1) (count_to (less u j) n))
    go ih (yes q) = rw (other_stays (u n) n j (λ s. absurd (omega (arith, s)))) (pick (u n) _ _ (ih q))
    go ih (no q) =
        let s : n ≡ j = omega (arith, lt_of_not-le q) in
        let k = same_count (less u j) u j (λ i l. other_stays (u i) i j (λ z. absurd (omega (arith, z)))) in
        rw (s, e, eq-eqb j j refl) (omega (arith, k))

-- no fewer pass where such a map leads
count_into : (t u : ℕ → Bool) (σ : ℕ → ℕ) (m n : ℕ) → Into t u σ m n → count_to t m ≤ count_to u n
unfolding count_to
count_into t u σ zero n f = omega arith
count_into t u σ (suc m) n f = go (t m) refl (count_into t u σ m n first) (λ e. count_into t (less u (σ m)) σ m n others)
  where
    first : Into t u σ m n
    first = record {
      within = λ i q. f.within i (omega arith);
      passes = λ i q. f.passes i (omega arith);
      one = λ i j p q. f.one i j (omega arith) (omega arith);
    }

    clash : (i : ℕ) → i < m → σ i ≡ σ m → ⊥
    clash i q s = absurd (omega (arith, f.one i m (omega arith) (omega arith) s))

    others : Into t (less u (σ m)) σ m n
    others = record {
      within = first.within;
      passes = λ i q e. other_stays (u (σ i)) (σ i) (σ m) (clash i q) ∙ first.passes i q e;
      one = first.one;
    }

    go : (b : Bool) → t m ≡ b → count_to t m ≤ count_to u n → (t m ≡ true → count_to t m ≤ count_to (less u (σ m)) n) →
        cond b (count_to t m + 1) (count_to t m) ≤ count_to u n
    go true e _ ih = omega (arith, ih e, removed u (σ m) n (f.within m (omega arith)) (f.passes m (omega arith) e))
    go false e ih _ = ih

-- ---- the least distance
-- none of them lie farther apart at the least
closest_into :
    (cap : ℕ) (t u : ℕ → Bool) (a b : List ℤ) (σ : ℕ → ℕ) (m n : ℕ) → Into t u σ m n →
    ((i : ℕ) → i < m → place a i ≡ place b (σ i)) → closest_to cap u b n ≤ closest_to cap t a m
closest_into cap t u a b σ m n f h =
    closest_from cap t a m (closest_to cap u b n) (closest_bound cap u b n) (λ i j o q d e.
    rw (h i (omega arith), h j q)
    (closest_least cap u b n (σ j) (σ i) (f.within j q) (f.within i (omega arith))
    (λ s. absurd (omega (arith, f.one j i q (omega arith) s))) (f.passes j q e) (f.passes i (omega arith) d)))

-- ---- a relisting leads there and back
module _ (n : ℕ) (t t' : ℕ → Bool) (σ τ : ℕ → ℕ) (r : Relisting n σ τ) (same : (i : ℕ) → i < n → t' i ≡ t (σ i)) where
  there : Into t' t σ n n
  there = record {
    within = r.there_within;
    passes = λ i q e. sym (same i q) ∙ e;
    one = λ i j p q e. sym (r.back_there i p) ∙ ap τ e ∙ r.back_there j q;
  }

  back : Into t t' τ n n
  back = record {
    within = r.back_within;
    passes = λ i q e. same (τ i) (r.back_within i q) ∙ ap t (r.there_back i q) ∙ e;
    one = λ i j p q e. sym (r.there_back i p) ∙ ap σ e ∙ r.there_back j q;
  }

  pub count_relisted : count_to t' n ≡ count_to t n
  count_relisted = le_antisymm (count_into t' t σ n n there) (count_into t t' τ n n back)

  pub closest_relisted :
      (cap : ℕ) (a a' : List ℤ) → ((i : ℕ) → i < n → place a' i ≡ place a (σ i)) → closest_to cap t' a' n ≡ closest_to cap t a n
  closest_relisted cap a a' h =
      le_antisymm
      (closest_into cap t t' a a' τ n n back (λ i q. sym (h (τ i) (r.back_within i q) ∙ ap (place a) (r.there_back i q))))
      (closest_into cap t' t a' a σ n n there h)

-- ---- windows
module _ (n : ℕ) (from l : Listed) (r : Relisted n from l) (reach : ℕ) (z : ℤ) where
  same_window : (i : ℕ) → i < n → in_window l.across reach z i ≡ in_window from.across reach z (r.there i)
  same_window i q = ap (λ p. within_reach z p reach) (r.across i q)

  pub window_number_lem : window_number l.across n reach z ≡ window_number from.across n reach z
  window_number_lem = count_relisted n _ _ r.there r.back r.turns same_window

  pub window_closest_lem :
      window_closest l.along l.across n reach z ≡ window_closest from.along from.across n reach z
  window_closest_lem =
      closest_relisted n _ _ r.there r.back r.turns same_window farthest from.along l.along r.along
