-- Laws of chains: one step of the loop, and what a right chain says of its parts.
use Prim.Native.Nat.{ℕ, zero, suc, ◌+◌, ◌*◌, ◌≤◌, ◌<◌}
use native.Mathlib.Nat.{le_refl, pos_of_ne-zero}
use native.Mathlib.Decide.{le_ind}
use native.Mathlib.Numerals.{add-one}
use native.Mathlib.Omega.{arith}
use mathlib.Core.Bool.{Bool, true, ◌&&◌, and-eq-true_iff}
use mathlib.Core.Path.{◌≡◌, refl, ◌∙◌}
use mathlib.Core.List.{List}
use lib.ListN.{length, get_or, set, length-set}
use lib.Seq.{get_or-set_same, get_or-set_other}
use lib.Dec.{eqb}
use borrow.Author.Tests.{eqb-true, eqb-false, not-true}
use Rattle.chain.specs.declared.Width.{Width}
use Rattle.chain.specs.Chain.{bytes_of, number_at, offset_of, length_of, bound, continues, all_follow, chained, filled, Read}

filled_length : (f : ℕ → ℕ) (n : ℕ) (l : List ℕ) → length (filled f n l) ≡ length l
unfolding filled
filled_length f zero l = refl
filled_length f (suc n) l = length-set (filled f n l) n (f n) ∙ filled_length f n l

-- k pairs are passed, and the next part has to start at `start`
pub record Upto (w : Width) (s : List ℕ) (at first : ℕ) (before : List ℕ) (k : ℕ) (after : List ℕ) (whole : Bool) (start : ℕ) : Type 0 where
  pub next : start ≡ bound w s at first k
  pub right : whole ≡ all_follow w s at first k
  pub bounds : after ≡ filled (bound w s at first) k before

module _ {w : Width} {s : List ℕ} {at first : ℕ} {before : List ℕ} where
  pub none : Upto w s at first before 0 before true first
  unfolding bound all_follow filled
  none = record { next = refl; right = refl; bounds = refl }

  module _ {k : ℕ} {after : List ℕ} {whole : Bool} {start : ℕ} (h : Upto w s at first before k after whole start) where
    -- a pair more: its numbers and its test, and what is put into the list
    pub more : {size offset bytes : ℕ} {right : Bool} → size ≡ bytes_of w → offset ≡ number_at w s (at + k * (2 * size))
        → bytes ≡ number_at w s (at + k * (2 * size) + size) → right ≡ continues offset bytes start
        → Upto w s at first before (k + 1) (set after k start) (whole && right) (offset + bytes)
    unfolding bound all_follow filled
    more e f g r = record { next = rw add-one (cc); right = rw add-one (cc); bounds = rw add-one (cc) }

    -- after the last pair: whether the end is met
    pub all : {n : ℕ} → k ≡ n → Read w s at first n before (set after n start) (whole && eqb start (length s))
    unfolding chained filled
    all e = record { whole = cc; bounds = cc }

-- ---- the numbers that were lent
pub filled_at : (f : ℕ → ℕ) (l : List ℕ) (k n : ℕ) → k < n → k < length l → get_or (filled f n l) k 0 ≡ f k
unfolding filled
filled_at f l k n h g =
    le_ind (λ (m : ℕ). get_or (filled f m l) k 0 ≡ f k)
    (get_or-set_same (filled f k l) k (f k) 0 (rw filled_length g))
    (λ m b p. get_or-set_other (filled f m l) m k (f m) 0 (λ e. omega arith) ∙ p)
    n
    h

-- ---- a right chain
module _ (w : Width) (s : List ℕ) (at first : ℕ) where
  -- pair k starts where its part has to, and has bytes
  pub record Follows (k : ℕ) : Type 0 where
    pub start : offset_of w s at k ≡ bound w s at first k
    pub some : 0 < length_of w s at k

  each : (k n : ℕ) → k < n → all_follow w s at first n ≡ true → Follows k
  unfolding all_follow
  each k =
      le_ind (λ (m : ℕ). all_follow w s at first m ≡ true → Follows k)
      (λ h.
      let p = simp and-eq-true_iff at h in
      record { start = eqb-true _ _ p.1.0; some = pos_of_ne-zero (eqb-false _ _ (not-true _ p.1.1)) })
      (λ m _ ih h. ih ((and-eq-true_iff _ _).0 h).0)

  rises : (k n : ℕ) → k ≤ n → ((j : ℕ) → j < n → Follows j) → bound w s at first k ≤ bound w s at first n
  unfolding bound
  rises k =
      le_ind (λ (m : ℕ). ((j : ℕ) → j < m → Follows j) → bound w s at first k ≤ bound w s at first m)
      (λ _. le_refl (bound w s at first k))
      (λ m _ ih f. let b = ih (λ j l. f j (omega arith)) in let q = f m (omega arith) in omega arith)

  module _ (n : ℕ) (h : chained w s at first n ≡ true) where
    pub follow : (k : ℕ) → k < n → Follows k
    unfolding chained
    follow k l = each k n l ((and-eq-true_iff _ _).0 h).0

    -- a part lies within the whole
    pub inside : (k : ℕ) → k ≤ n → bound w s at first k ≤ length s
    unfolding chained
    inside k l =
        let e : bound w s at first n ≡ length s = eqb-true _ _ ((and-eq-true_iff (all_follow w s at first n) _).0 h).1 in
        rw (← e) (rises k n l follow)
