-- What a pass over dowels in their order along has seen: how many pass a test, and the least distance of two of them.
use Prim.Native.Nat.{ℕ, zero, suc, ◌+◌, ◌≤◌, ◌<◌, min}
use mathlib.Core.Path.{◌≡◌, refl, sym, ap, ap₂, ◌∙◌}
use mathlib.Core.Bool.{Bool, true, false, cond, true≢false}
use mathlib.Core.List.{List}
use native.Mathlib.Nat.{lt_of_not-le, le_antisymm}
use native.Mathlib.Decide.{dec_lt}
use native.Mathlib.Numerals.{add-one}
use native.Mathlib.Omega.{arith}
use lib.Dec.{eqb}
use lib.IntN.{ℤ, nat_abs, ◌-ℤ◌}
use borrow.Author.Tests.{eqb-true, eqb-false, eq-eqb, ne_eqb}
use Rattle.std.specs.Prelude.{Option, None, Some}
use Rattle.spacing.specs.Spacing.{place, distance}
use Rattle.spacing.proofs.Search.{pick_at_most}
use Rattle.group.specs.Rows.{count_to}
use Rattle.group.specs.Listing.{Rising}
use Rattle.group.specs.Share.{least_to, closest_to, farthest, gap_on, seen_on, seen_to, longer, Kept}
use Rattle.group.specs.declared.rows.Row.{Row}
use Rattle.group.proofs.Line.{farther}
use Rattle.group.proofs.Counting.{count_some, least_bound, least_below, least_from, closest_bound}

-- ---- the pass
seen_next : (test : ℕ → Bool) (a : List ℤ) (k : ℕ) → seen_to test a (k + 1) ≡ seen_on (seen_to test a k) (test k) (place a k)
unfolding seen_to
seen_next test a k = ap (seen_to test a) (add-one k)

-- what the code keeps of it
pub kept_none : (test : ℕ → Bool) (a : List ℤ) → Kept (record { number = 0; least = farthest }) None (seen_to test a 0)
unfolding seen_to
kept_none test a = record { number = refl; least = refl; last = refl }

pub kept_passed :
    (test : ℕ → Bool) (a : List ℤ) (k : ℕ) {row : Row} {at : Option ℤ} → test k ≡ false → Kept row at (seen_to test a k) →
    Kept row at (seen_to test a (k + 1))
kept_passed test a k f h = rw (seen_next, f) h

pub kept_longer :
    (test : ℕ → Bool) (a : List ℤ) (k : ℕ) {row : Row} (at : Option ℤ) → test k ≡ true → Kept row at (seen_to test a k) →
    Kept (longer row at (place a k)) (Some (place a k)) (seen_to test a (k + 1))
kept_longer test a k None t h =
    rw (seen_next, t, eq-eqb (seen_to test a k).number 0 h.last)
    (record { number = ap (λ n. n + 1) h.number; least = h.least; last = (omega arith, refl) })
kept_longer test a k (Some z) t h =
    rw (seen_next, t, ne_eqb (seen_to test a k).number 0 (λ e. omega (arith, h.last.0)))
    (record {
      number = ap (λ n. n + 1) h.number;
      least = ap₂ (λ m y. min m (nat_abs (place a k -ℤ y))) h.least h.last.1;
      last = (omega arith, refl);
    })

-- it counts
pub seen_count : (test : ℕ → Bool) (a : List ℤ) (k : ℕ) → (seen_to test a k).number ≡ count_to test k
unfolding seen_to count_to
seen_count test a zero = refl
seen_count test a (suc k) = go (test k) (seen_count test a k)
  where
    go : (b : Bool) → (seen_to test a k).number ≡ count_to test k →
        (seen_on (seen_to test a k) b (place a k)).number ≡ cond b (count_to test k + 1) (count_to test k)
    go true e = ap (λ n. n + 1) e
    go false e = e

pub seen_least_bound : (test : ℕ → Bool) (a : List ℤ) (k : ℕ) → (seen_to test a k).least ≤ farthest
unfolding seen_to
seen_least_bound test a zero = omega arith
seen_least_bound test a (suc k) = go (test k) (seen_least_bound test a k)
  where
    go : (b : Bool) → (seen_to test a k).least ≤ farthest → (seen_on (seen_to test a k) b (place a k)).least ≤ farthest
    go true l = pick_at_most (eqb (seen_to test a k).number 0) _ _ _ l (omega (arith, l))
    go false l = l

-- ---- the last one
-- z is where the last of those below k that pass lies
record Last (test : ℕ → Bool) (a : List ℤ) (k : ℕ) (z : ℤ) : Type 0 where
  index : ℕ
  within : index < k
  passes : test index ≡ true
  is : z ≡ place a index
  greatest : (i : ℕ) → i < k → test i ≡ true → i ≤ index

-- k fails the test
later : {test : ℕ → Bool} {a : List ℤ} {k : ℕ} {z : ℤ} → test k ≡ false → Last test a k z → Last test a (suc k) z
later {test} {k = k} f s = record {
  index = s.index;
  within = omega (arith, s.within);
  passes = s.passes;
  is = s.is;
  greatest = λ i q e. go i e (dec_lt i k) q;
}
  where
    go : (i : ℕ) → test i ≡ true → Dec (i < k) → i < suc k → i ≤ s.index
    go i e (yes p) q = s.greatest i p e
    go i e (no p) q =
        let j : i ≡ k = omega (arith, lt_of_not-le p) in
        absurd (true≢false (sym e ∙ ap test j ∙ f))

-- the one kept is the last
seen_last : (test : ℕ → Bool) (a : List ℤ) (k : ℕ) → 1 ≤ (seen_to test a k).number → Last test a k (seen_to test a k).last
unfolding seen_to
seen_last test a zero h = absurd (omega arith)
seen_last test a (suc k) h = go (test k) refl h (seen_last test a k)
  where
    go : (b : Bool) → test k ≡ b → 1 ≤ (seen_on (seen_to test a k) b (place a k)).number →
        (1 ≤ (seen_to test a k).number → Last test a k (seen_to test a k).last) →
        Last test a (suc k) (seen_on (seen_to test a k) b (place a k)).last
    go true t l ih = record { index = k; within = omega arith; passes = t; is = refl; greatest = λ i q e. omega arith }
    go false t l ih = later t (ih l)

module _ (test : ℕ → Bool) (a : List ℤ) (n : ℕ) (r : Rising a n) where
  -- where none has passed there is no distance from k
  least_none : (k : ℕ) → (seen_to test a k).number ≡ 0 → least_to farthest test (distance a k) k ≡ farthest
  least_none k h =
      le_antisymm (least_bound farthest test (distance a k) k)
      (least_from farthest test (distance a k) k farthest (omega arith)
      (λ j q e. absurd (omega (arith, count_some test k j q e, seen_count test a k))))

  -- else the least distance from k is that from the last one
  least_last :
      (k : ℕ) → k < n → (s : Last test a k (seen_to test a k).last) →
      least_to farthest test (distance a k) k ≡ min farthest (distance a k s.index)
  least_last k h s =
      le_antisymm
      (omega
      (arith, least_bound farthest test (distance a k) k, least_below farthest test (distance a k) k s.index s.within s.passes))
      (least_from farthest test (distance a k) k (min farthest (distance a k s.index)) (omega arith)
      (λ j q e. omega (arith, nearest j q e)))
    where
      nearest : (j : ℕ) → j < k → test j ≡ true → distance a k s.index ≤ distance a k j
      nearest j q e =
          farther (place a j) (place a s.index) (place a k)
          (r j s.index (s.greatest j q e) (omega (arith, s.within)))
          (r s.index k (omega (arith, s.within)) h)

  -- one more that passes
  gap_is :
      (k : ℕ) → k < n → (seen_to test a k).least ≡ closest_to farthest test a k →
      gap_on (seen_to test a k) (place a k) ≡ min (closest_to farthest test a k) (least_to farthest test (distance a k) k)
  gap_is k h e = go (eqb (seen_to test a k).number 0) refl
    where
      go : (b : Bool) → eqb (seen_to test a k).number 0 ≡ b →
          cond b (seen_to test a k).least (min (seen_to test a k).least (nat_abs (place a k -ℤ (seen_to test a k).last)))
          ≡ min (closest_to farthest test a k) (least_to farthest test (distance a k) k)
      go true t = omega (arith, e, least_none k (eqb-true _ _ t), closest_bound farthest test a k)
      go false t =
          let s = seen_last test a k (omega (arith, eqb-false (seen_to test a k).number 0 t)) in
          rw s.is (omega (arith, e, least_last k h s, closest_bound farthest test a k))

  -- the least distance from one to the next is the least of all
  pub seen_least : (k : ℕ) → k ≤ n → (seen_to test a k).least ≡ closest_to farthest test a k
  unfolding seen_to closest_to
  seen_least zero h = refl
  seen_least (suc k) h = go (test k) (seen_least k (omega arith))
    where
      go : (b : Bool) → (seen_to test a k).least ≡ closest_to farthest test a k →
          (seen_on (seen_to test a k) b (place a k)).least
          ≡ cond b (min (closest_to farthest test a k) (least_to farthest test (distance a k) k)) (closest_to farthest test a k)
      go true e = gap_is k h e
      go false e = e
