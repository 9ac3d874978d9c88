-- Laws of the search for the first index and the first pair.
use mathlib.Core.Path.{◌≡◌, refl, sym, ◌∙◌}
use mathlib.Core.Bool.{Bool, true, false, cond, true≢false}
use Prim.Native.Nat.{ℕ, zero, suc, ◌+◌, ◌≤◌, ◌<◌}
use native.Mathlib.Nat.{lt_of_not-le, le_of_lt}
use native.Mathlib.Decide.{dec_le}
use native.Mathlib.Omega.{arith}
use Rattle.std.specs.Prelude.{Option, None, Some, MatchOption}
use borrow.Author.Tests.{lt-ltb}
use Rattle.spacing.specs.Search.{first_from, partner, has_partner, first_pair, FirstIs, PairIs}

-- r is the first of k, k + 1, .. below the end at which the test holds, or the end
pub record Finds (test : ℕ → Bool) (k e r : ℕ) : Type 0 where
  pub low : k ≤ r
  pub high : r ≤ e
  pub before : (j : ℕ) → k ≤ j → j < r → test j ≡ false
  pub at : r < e → test r ≡ true

here : (test : ℕ → Bool) (k e : ℕ) → k < e → test k ≡ true → Finds test k e k
here test k e h t = record {
  low = omega arith;
  high = le_of_lt h;
  before = λ j p q. absurd (omega arith);
  at = λ p. t;
}

later : (test : ℕ → Bool) (k e r : ℕ) → test k ≡ false → Finds test (k + 1) e r → Finds test k e r
later test k e r t f = record {
  low = omega (arith, f.low);
  high = f.high;
  before = λ j p q. go j q (dec_le (k + 1) j) p;
  at = f.at;
}
  where
    go : (j : ℕ) → j < r → Dec (k + 1 ≤ j) → k ≤ j → test j ≡ false
    go j q (yes h) p = f.before j h q
    go j q (no h) p = let e : j ≡ k = omega (arith, lt_of_not-le h) in rw e t

by_test :
    (test : ℕ → Bool) (k e r : ℕ) (b : Bool) → test k ≡ b → k < e → Finds test (k + 1) e r → Finds test k e (cond b k r)
by_test test k e r true t h f = here test k e h t
by_test test k e r false t h f = later test k e r t f

pub finds : (test : ℕ → Bool) (k left : ℕ) → Finds test k (k + left) (first_from test k left)
unfolding first_from
finds test k zero = record {
  low = omega arith;
  high = omega arith;
  before = λ j p q. absurd (omega arith);
  at = λ p. absurd (omega arith);
}
finds test k (suc left) =
    let s : k + 1 + left ≡ k + suc left = omega arith in
    by_test test k (k + suc left) (first_from test (k + 1) left) (test k) refl (omega arith)
    (rw s at (finds test (k + 1) left))

-- only one index is the first
same_first : (test : ℕ → Bool) (k e i r : ℕ) → Finds test k e i → Finds test k e r → i ≡ r
same_first test k e i r f g = go (dec_le i r) (dec_le r i)
  where
    go : Dec (i ≤ r) → Dec (r ≤ i) → i ≡ r
    go (yes h) (yes q) = omega arith
    go (no h) q = absurd (true≢false (sym (g.at (omega (arith, f.high, lt_of_not-le h))) ∙ f.before r g.low (lt_of_not-le h)))
    go (yes h) (no q) = absurd (true≢false (sym (f.at (omega (arith, g.high, lt_of_not-le q))) ∙ g.before i f.low (lt_of_not-le q)))

-- what a search over k, .., n - 1 answers
abbrev pub Answers : (ℕ → Bool) → ℕ → ℕ → Option ℕ → Type 0
Answers test k n r =
    MatchOption r ((j : ℕ) → k ≤ j → j < n → test j ≡ false)
    (λ i. (k ≤ i) × (i < n) × (test i ≡ true) × ((j : ℕ) → k ≤ j → j < i → test j ≡ false))

pub first_is :
    (test : ℕ → Bool) (k left n : ℕ) (r : Option ℕ) → k + left ≡ n → Answers test k n r →
    FirstIs r (first_from test k left) n
first_is test k left n None e a = go (dec_le n (first_from test k left))
  where
    go : Dec (n ≤ first_from test k left) → n ≤ first_from test k left
    go (yes p) = p
    go (no p) =
        let f = finds test k left in
        absurd (true≢false (sym (f.at (omega (arith, lt_of_not-le p))) ∙ a _ f.low (lt_of_not-le p)))
first_is test k left n (Some i) e a =
    (same_first test k n i _ (record { low = a.0; high = le_of_lt a.1; before = a.3; at = λ p. a.2 }) (rw e at (finds test k left)), a.1)

-- the first dowel that has a partner makes the first pair
pub pair_is :
    (pair : ℕ → ℕ → Bool) (n i j : ℕ) → i < n → ((k : ℕ) → k < i → has_partner pair n k ≡ false) →
    FirstIs (Some j) (partner pair n i) n → PairIs (Some (i, j)) pair n
unfolding first_pair
pair_is pair n i j h b f =
    let there : has_partner pair n i ≡ true = rw f.0 at (lt-ltb j n f.1) in
    let first = first_is (has_partner pair n) 0 n n (Some i) (omega arith) (omega arith, h, there, λ k p q. b k q) in
    (first.0, h, f.0, f.1)

pub none_is :
    (pair : ℕ → ℕ → Bool) (n : ℕ) → ((k : ℕ) → k < n → has_partner pair n k ≡ false) → PairIs None pair n
unfolding first_pair
none_is pair n b = first_is (has_partner pair n) 0 n n None (omega arith) (λ k p q. b k q)

-- a choice between two that are within a bound
pub pick_at_most : (b : Bool) (x y n : ℕ) → x ≤ n → y ≤ n → cond b x y ≤ n
pick_at_most true x y n p q = p
pick_at_most false x y n p q = q
