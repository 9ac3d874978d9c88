-- Laws of a table's pairs: one more of them, and what a right layout says of each and of its stretch.
use Prim.Native.Nat.{ℕ, suc, ◌+◌, ◌*◌, ◌%◌, ◌≤◌, ◌<◌}
use native.Mathlib.Decide.{le_ind}
use native.Mathlib.Numerals.{add-one}
use native.Mathlib.Omega.{arith}
use mathlib.Core.Path.{◌≡◌, refl, sym, ap}
use mathlib.Core.Bool.{Bool, true, false, not, ◌&&◌, ◌||◌, and-eq-true_iff, false≢true}
use mathlib.Core.List.{List}
use borrow.Author.Tests.{eqb-true, ltb-false}
use lib.Dec.{eqb, ltb}
use lib.ListN.{length, length-drop}
use lib.Seq.{length-take-le}
use Rattle.numbers.specs.Numbers.{u16_at}
use Rattle.chain.specs.Chain.{number_at, offset_of, length_of, bound, chained}
use Rattle.chain.specs.declared.Width.TheVariants.{Two}
use Rattle.chain.proofs.Laws.{Follows, follow, inside}
use Rattle.tables.specs.Pairs.{first_pair, front_size, pair_count, all_whole, refusal14, stretch_of}

pub none : (b : List ℕ) → all_whole b 0 ≡ true
unfolding all_whole
none b = refl

pub one_more : (b : List ℕ) (k : ℕ) → all_whole b (k + 1) ≡ (all_whole b k && eqb (u16_at b (2 + k * 4 + 2) % 4) 0)
unfolding all_whole number_at
one_more b k = ap (all_whole b) (add-one k)

none_holds : (w x y z : Bool) → (w || not x || not y || not z) ≡ false → (w ≡ false) × (x ≡ true) × (y ≡ true) × (z ≡ true)
none_holds true x y z h = absurd (false≢true (sym h))
none_holds false false y z h = absurd (false≢true (sym h))
none_holds false true false z h = absurd (false≢true (sym h))
none_holds false true true false h = absurd (false≢true (sym h))
none_holds false true true true h = (refl, refl, refl, refl)

each_whole : (b : List ℕ) (k n : ℕ) → k < n → all_whole b n ≡ true → length_of Two b first_pair k % 4 ≡ 0
unfolding all_whole
each_whole b k =
    le_ind (λ (m : ℕ). all_whole b m ≡ true → length_of Two b first_pair k % 4 ≡ 0)
    (λ h. eqb-true _ _ ((and-eq-true_iff _ _).0 h).1)
    (λ m _ ih h. ih ((and-eq-true_iff _ _).0 h).0)

module _ (pairs : ℕ) (b : List ℕ) (h : refusal14 pairs b ≡ false) where
  tests : (ltb (length b) (front_size pairs) ≡ false) × (eqb (pair_count b) pairs ≡ true)
      × (chained Two b first_pair (front_size pairs) pairs ≡ true) × (all_whole b pairs ≡ true)
  unfolding refusal14
  tests = none_holds _ _ _ _ h

  pub front_inside : front_size pairs ≤ length b
  front_inside = ltb-false _ _ tests.0

  module _ (k : ℕ) (l : k < pairs) where
    pub part_follows : Follows Two b first_pair (front_size pairs) k
    part_follows = follow Two b first_pair (front_size pairs) pairs tests.2 k l

    -- a pair and its stretch end within the table
    pub pair_inside : 2 + k * 4 + 4 ≤ length b
    pair_inside = let f = front_inside in omega arith

    pub part_inside : offset_of Two b first_pair k + length_of Two b first_pair k ≤ length b
    unfolding bound
    part_inside = inside Two b first_pair (front_size pairs) pairs tests.2 (suc k) l

    pub part_whole : length_of Two b first_pair k % 4 ≡ 0
    part_whole = each_whole b k pairs l tests.3

    pub stretch_length : length (stretch_of k b) ≡ length_of Two b first_pair k
    stretch_length =
        let i = part_inside in
        let d = length-drop (offset_of Two b first_pair k) b in
        length-take-le _ _ (omega arith)

  -- the last stretch ends with the table
  pub ends : bound Two b first_pair (front_size pairs) pairs ≡ length b
  unfolding chained
  ends = eqb-true _ _ ((and-eq-true_iff _ _).0 tests.2).1
