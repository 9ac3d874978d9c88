-- Laws of rows: every set of dowels each two of which are near lies in a row, a row is the window up from its lowest dowel, and a row of
-- several dowels has one least distance.
use Prim.Native.Nat.{ℕ, zero, suc, ◌+◌, ◌≤◌, ◌<◌}
use mathlib.Core.Path.{◌≡◌, refl, sym, ap, ◌∙◌}
use mathlib.Core.Bool.{Bool, true, false, true≢false}
use mathlib.Core.Logic.{◌⊎◌, inl, inr, ⊎_elim}
use mathlib.Core.List.{List}
use native.Mathlib.Nat.{le_trans, le_antisymm, lt_of_le_of_lt, lt_of_not-le}
use native.Mathlib.Decide.{dec_lt}
use native.Mathlib.Omega.{arith}
use borrow.Author.Tests.{leb-true, leb-false, lt-leb}
use lib.Dec.{leb}
use lib.IntN.{ℤ}
use lib.Signed.{le_z}
use Rattle.spacing.specs.Spacing.{place, distance}
use Rattle.spacing.proofs.Integers.{distance_turned, no_distance}
use Rattle.group.specs.Rows.{count_to, Barred, IsRow, LeastDistance, OfRow}
use Rattle.group.specs.Share.{in_window, closest_to, farthest, window_number, window_closest}
use Rattle.group.proofs.Line.{le_z_self, le_z_trans, le_z_total, in_reach, window_near}
use Rattle.group.proofs.Counting.{count_some, count_two, count_more, another}
use Rattle.group.proofs.Counting.{closest_bound, closest_below, closest_least, closest_attained, closest_from}
use Rattle.group.proofs.Extend.{extend, keeps, extend_near, extend_whole}

-- the dowels of one set are in another
abbrev pub Inside : ℕ → (ℕ → Bool) → (ℕ → Bool) → Type 0
Inside count t u = (i : ℕ) → i < count → t i ≡ true → u i ≡ true

-- each two of a set are near
abbrev pub AllNear : List ℤ → ℕ → ℕ → (ℕ → Bool) → Type 0
AllNear b count reach t = (i j : ℕ) → i < count → j < count → t i ≡ true → t j ≡ true → distance b i j < reach

-- ---- sets and rows
module _ (b : List ℤ) (count reach : ℕ) where
  abbrev far : ℕ → ℕ → Bool
  far i j = leb reach (distance b i j)

  flips : (i j : ℕ) → far i j ≡ far j i
  flips i j = ap (leb reach) (distance_turned (place b j) (place b i))

  -- a row that has all dowels of a set
  pub record RowAround (t : ℕ → Bool) : Type 0 where
    pub in_row : ℕ → Bool
    pub row : IsRow b count reach in_row
    pub has : Inside count t in_row

  -- every set of near dowels lies in a row: add dowel after dowel where nothing bars it
  pub row_around : (t : ℕ → Bool) → 1 ≤ reach → AllNear b count reach t → RowAround t
  row_around t some near = record {
    in_row = u;
    row = record { near = λ i j p q r s. leb-false _ _ (close i j p q r s); full = full };
    has = λ i h e. keeps far count t count i e;
  }
    where
      u : ℕ → Bool
      u = extend far count t count

      self : (i : ℕ) → far i i ≡ false
      self i = lt-leb reach (distance b i i) (rw (no_distance (place b i)) some)

      close : (i j : ℕ) → i < count → j < count → u i ≡ true → u j ≡ true → far i j ≡ false
      close = extend_near far count flips self t count (λ i j p q r s. lt-leb _ _ (near i j p q r s))

      full : (i : ℕ) → i < count → u i ≡ false → Barred b count reach u i
      full i h e =
          let w = extend_whole far count t i h e in
          record { by = w.one; within = w.within; member = w.member; far = leb-true _ _ w.away }

  -- a set has a lowest dowel
  pub record Lowest (t : ℕ → Bool) (k : ℕ) : Type 0 where
    pub one : ℕ
    pub within : one < k
    pub passes : t one ≡ true
    pub low : (j : ℕ) → j < k → t j ≡ true → le_z (place b one) (place b j) ≡ true

  -- with one dowel more
  lower : (t : ℕ → Bool) (k l : ℕ) → l < suc k → t l ≡ true → (t k ≡ true → le_z (place b l) (place b k) ≡ true) →
      ((j : ℕ) → j < k → t j ≡ true → le_z (place b l) (place b j) ≡ true) → Lowest t (suc k)
  lower t k l h e top rest = record { one = l; within = h; passes = e; low = λ j q s. go j q s (dec_lt j k) }
    where
      go : (j : ℕ) → j < suc k → t j ≡ true → Dec (j < k) → le_z (place b l) (place b j) ≡ true
      go j q s (yes p) = rest j p s
      go j q s (no p) = let z : j ≡ k = omega (arith, lt_of_not-le p) in rw z (top (rw z at s))

  lowest_or_none : (t : ℕ → Bool) (k : ℕ) → Lowest t k ⊎ ((j : ℕ) → j < k → t j ≡ false)
  lowest_or_none t zero = inr (λ j h. absurd (omega arith))
  lowest_or_none t (suc k) = go (t k) refl (lowest_or_none t k)
    where
      none : t k ≡ false → ((j : ℕ) → j < k → t j ≡ false) → (j : ℕ) → j < suc k → Dec (j < k) → t j ≡ false
      none r n j h (yes p) = n j p
      none r n j h (no p) = let z : j ≡ k = omega (arith, lt_of_not-le p) in rw z r

      go : (s : Bool) → t k ≡ s → Lowest t k ⊎ ((j : ℕ) → j < k → t j ≡ false) → Lowest t (suc k) ⊎ ((j : ℕ) → j < suc k → t j ≡ false)
      go true r (inl l) =
          inl
          (⊎_elim
          (λ q. lower t k l.one (omega (arith, l.within)) l.passes (λ _. q) l.low)
          (λ q.
          lower t k k (omega arith) r (λ _. le_z_self (place b k))
          (λ j o s. le_z_trans (place b k) (place b l.one) (place b j) q (l.low j o s)))
          (le_z_total (place b l.one) (place b k)))
      go true r (inr n) =
          inl (lower t k k (omega arith) r (λ _. le_z_self (place b k)) (λ j o s. absurd (true≢false (sym s ∙ n j o))))
      go false r (inl l) =
          inl (lower t k l.one (omega (arith, l.within)) l.passes (λ q. absurd (true≢false (sym q ∙ r))) l.low)
      go false r (inr n) = inr (λ j h. none r n j h (dec_lt j k))

  lowest : (t : ℕ → Bool) (k i : ℕ) → i < k → t i ≡ true → Lowest t k
  lowest t k i h e = ⊎_elim (λ l. l) (λ n. absurd (true≢false (sym e ∙ n i h))) (lowest_or_none t k)

  -- near dowels lie in the window up from the lowest of them
  pub in_window_lem : (t : ℕ → Bool) → AllNear b count reach t → (l : Lowest t count) → Inside count t (in_window b reach (place b l.one))
  in_window_lem t near l i h e =
      in_reach (place b l.one) (place b i) reach (l.low i h e) (near l.one i l.within h l.passes e)

  -- and the dowels of a window are near
  pub window_all_near : (from : ℤ) → AllNear b count reach (in_window b reach from)
  window_all_near from i j p q r s = window_near from (place b i) (place b j) reach r s

  -- a row has a dowel, and so a lowest one
  pub row_lowest : (t : ℕ → Bool) → 1 ≤ count → IsRow b count reach t → Lowest t count
  row_lowest t some r = go (t 0) refl
    where
      go : (s : Bool) → t 0 ≡ s → Lowest t count
      go true e = lowest t count 0 some e
      go false e = let w = r.full 0 some e in lowest t count w.by w.within w.member

  -- a row is the window up from its lowest dowel: what is in the window and not in the row would be barred by one of the window
  pub row_window :
      (t : ℕ → Bool) → IsRow b count reach t → (l : Lowest t count) → (j : ℕ) → j < count →
      t j ≡ in_window b reach (place b l.one) j
  row_window t r l j h = go (t j) refl (window j) refl
    where
      window : ℕ → Bool
      window = in_window b reach (place b l.one)

      has : Inside count t window
      has = in_window_lem t r.near l

      go : (s : Bool) → t j ≡ s → (w : Bool) → window j ≡ w → s ≡ w
      go true e true f = refl
      go true e false f = absurd (true≢false (sym (has j h e) ∙ f))
      go false e true f =
          let x = r.full j h e in
          absurd (omega (arith, x.far, window_all_near (place b l.one) j x.by h x.within f (has x.by x.within x.member)))
      go false e false f = refl

-- ---- the least distance
module _ (a : List ℤ) (count : ℕ) where
  -- a set in another has no lesser distance
  pub closest_inside : (cap : ℕ) (t u : ℕ → Bool) → Inside count t u → closest_to cap u a count ≤ closest_to cap t a count
  closest_inside cap t u h =
      closest_from cap t a count (closest_to cap u a count) (closest_bound cap u a count)
      (λ i j o q ti tj. closest_below cap u a count i j o q (h i (omega arith) ti) (h j q tj))

  -- below the cap there are two
  pub closest_several : (cap : ℕ) (t : ℕ → Bool) → closest_to cap t a count < cap → 1 < count_to t count
  closest_several cap t h =
      let p = closest_attained cap t a count h in
      count_two t count p.one p.two p.before p.within p.one_passes p.two_passes

  -- a least distance is at most what is below the cap, and at least what is at most all
  pub least_closest :
      (cap : ℕ) (t : ℕ → Bool) (a1 : ℕ) → LeastDistance a count t a1 → closest_to cap t a count < cap → a1 ≤ closest_to cap t a count
  least_closest cap t a1 l h =
      let p = closest_attained cap t a count h in
      rw p.apart
      (l.least p.two p.one p.within (omega (arith, p.before, p.within)) (λ e. omega (arith, e, p.before))
      p.two_passes p.one_passes)

  pub closest_most : (cap : ℕ) (t : ℕ → Bool) (a1 : ℕ) → LeastDistance a count t a1 → closest_to cap t a count ≤ a1
  closest_most cap t a1 l =
      rw l.attained (closest_least cap t a count l.one l.two l.one_within l.two_within l.differ l.one_row l.two_row)

  -- a set of several dowels has a least distance: the least below 1 more than that of two of them
  pub least_distance : (t : ℕ → Bool) → 1 < count_to t count → (a1 : ℕ) × LeastDistance a count t a1
  least_distance t several =
      let x = another t count count several in
      let y = another t count x.one several in
      let cap = distance a x.one y.one + 1 in
      let less : closest_to cap t a count ≤ distance a x.one y.one =
      closest_least cap t a count x.one y.one x.within y.within (λ e. y.differs (sym e)) x.passes y.passes in
      let p = closest_attained cap t a count (omega (arith, less)) in (
        closest_to cap t a count,
        record {
          one = p.two;
          two = p.one;
          one_within = p.within;
          two_within = omega (arith, p.before, p.within);
          differ = λ e. omega (arith, e, p.before);
          one_row = p.two_passes;
          two_row = p.one_passes;
          attained = p.apart;
          least = closest_least cap t a count;
        },
      )

  -- any number stands for that of a lone dowel
  pub some_distance : (t : ℕ → Bool) → (a1 : ℕ) × (1 < count_to t count → LeastDistance a count t a1)
  some_distance t = go (dec_lt 1 (count_to t count))
    where
      go : Dec (1 < count_to t count) → (a1 : ℕ) × (1 < count_to t count → LeastDistance a count t a1)
      go (yes m) = let l = least_distance t m in (l.0, λ _. l.1)
      go (no m) = (0, λ p. absurd (m p))

-- ---- the numbers of a row
module _ (a b : List ℤ) (count reach : ℕ) where
  -- every row has a number and, where it has several dowels, a least distance
  pub of_row : (t : ℕ → Bool) → IsRow b count reach t → (a1 : ℕ) × OfRow a b count reach (count_to t count) a1
  of_row t r = let l = some_distance a count t in (l.0, record { in_row = t; row = r; number = refl; distance = l.1 })

  -- and there is a row: that around the first dowel's window
  pub record SomeRow : Type 0 where
    pub n : ℕ
    pub a1 : ℕ
    pub is : OfRow a b count reach n a1

  pub some_row : 1 ≤ reach → SomeRow
  some_row some =
      let from = place b 0 in
      let w = row_around b count reach (in_window b reach from) some (window_all_near b count reach from) in
      let r = of_row w.in_row w.row in
      record { n = count_to w.in_row count; a1 = r.0; is = r.1 }

  -- they are those of the window up from its lowest dowel
  pub record FromLowest (n a1 : ℕ) : Type 0 where
    pub dowel : ℕ
    pub within : dowel < count
    pub number : n ≡ window_number b count reach (place b dowel)
    pub distance : 1 < n → window_closest a b count reach (place b dowel) < farthest → a1 ≡ window_closest a b count reach (place b dowel)
    pub closest : 1 < n → window_closest a b count reach (place b dowel) ≤ a1

  pub from_lowest : (n a1 : ℕ) → 1 ≤ count → OfRow a b count reach n a1 → FromLowest n a1
  from_lowest n a1 some r = record {
    dowel = l.one;
    within = l.within;
    number = r.number ∙ le_antisymm (count_more t window count here) (count_more window t count there);
    distance = λ p below.
        le_antisymm (le_trans (least_closest a count farthest t a1 (r.distance p) (lt_of_le_of_lt back below)) back) (up p);
    closest = up;
  }
    where
      t : ℕ → Bool
      t = r.in_row

      l : Lowest b count reach t count
      l = row_lowest b count reach t some r.row

      window : ℕ → Bool
      window = in_window b reach (place b l.one)

      here : Inside count t window
      here j h e = sym (row_window b count reach t r.row l j h) ∙ e

      there : Inside count window t
      there j h e = row_window b count reach t r.row l j h ∙ e

      back : closest_to farthest t a count ≤ closest_to farthest window a count
      back = closest_inside a count farthest window t there

      up : 1 < n → closest_to farthest window a count ≤ a1
      up p = le_trans (closest_inside a count farthest t window here) (closest_most a count farthest t a1 (r.distance p))

  -- n is at least 1
  pub row_some : (n a1 : ℕ) → 1 ≤ count → OfRow a b count reach n a1 → 1 ≤ n
  row_some n a1 some r =
      let l = row_lowest b count reach r.in_row some r.row in
      rw r.number (count_some r.in_row count l.one l.within l.passes)
