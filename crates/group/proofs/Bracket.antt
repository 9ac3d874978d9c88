-- The share of a member lies in its bracket.
use mathlib.Core.Path.{◌≡◌, refl, sym, ◌∙◌}
use mathlib.Core.Bool.{Bool, true, false, true≢false}
use mathlib.Core.List.{List}
use Prim.Native.Nat.{ℕ, zero, suc, ◌+◌, ◌*◌, ◌^◌, ◌≤◌, ◌<◌}
use native.Mathlib.Nat.{mul-le-mul_right, le_refl, le_of_eq, le_trans, lt_of_not-le, lt_of_le_of_lt}
use native.Mathlib.Decide.{dec_lt}
use native.Mathlib.Omega.{arith}
use borrow.Author.Tests.{le-leb, leb-true}
use lib.Dec.{lit<}
use lib.IntN.{ℤ}
use Rattle.spacing.specs.Spacing.{place}
use Rattle.group.specs.Rows.{count_to, OfRow, NotAbove, share_over, EveryRow, SomeRowAbove, MemberBracket, RowsGiven}
use Rattle.group.specs.Share.{units, in_window, farthest, window_number, window_closest, row_passes, windows_pass, member_share}
use Rattle.group.proofs.Counting.{count_bound, count_more}
use Rattle.group.proofs.Shares.{eased, nothing_passes, far_passes, all_true, all_at, Fails, all_fails, greatest, greatest_from}
use Rattle.group.proofs.Effective.{cleared, cancelled, not_above_falls}
use Rattle.group.proofs.RowLaws.{RowAround, row_around, window_all_near, some_row, from_lowest, row_some}
use Rattle.group.proofs.RowLaws.{closest_inside, closest_several, least_closest, least_distance}

module _ (d reach : ℕ) (a b : List ℤ) (count : ℕ) (g : RowsGiven d reach count) where
  abbrev window : ℕ → ℕ → Bool
  window i = in_window b reach (place b i)

  abbrev number : ℕ → ℕ
  number i = window_number b count reach (place b i)

  abbrev closest : ℕ → ℕ
  closest i = window_closest a b count reach (place b i)

  abbrev e : ℕ
  e = member_share d reach a b count

  abbrev row : ℕ → ℕ → Type 0
  row = OfRow a b count reach

  reaches : 1 ≤ reach
  reaches = omega (arith, g.reaches)

  pub share_top : e ≤ 10000
  unfolding member_share
  share_top = (greatest (windows_pass d reach a b count count) 10000).bound

  -- the share passes the window of every dowel
  passed : (i : ℕ) → i < count → row_passes d (number i) (closest i) e ≡ true
  unfolding member_share
  passed = all_at _ count (go e (greatest (windows_pass d reach a b count count) 10000).passes)
    where
      go : (r : ℕ) → (0 < r → windows_pass d reach a b count count r ≡ true) → windows_pass d reach a b count count r ≡ true
      go zero f = all_true _ count (λ i h. nothing_passes d (number i) (closest i))
      go (suc r) f = f (omega arith)

  -- and below the whole, 1 more fails that of some dowel
  stops : e < 10000 → Fails (λ i. row_passes d (number i) (closest i) (e + 1)) count
  unfolding member_share
  stops h = all_fails _ count ((greatest (windows_pass d reach a b count count) 10000).above (e + 1) (omega arith) (omega arith))

  -- a row that is passed is not above its effective number, and one that is not above it is passed
  below : (n a1 : ℕ) → (1 < n → row_passes d n a1 e ≡ true) → NotAbove d n a1 (share_over e n)
  unfolding units row_passes
  below n a1 h = record {
    number = omega (arith, mul-le-mul_right n share_top);
    several = λ p. cleared e n ((130 * d) ^ 5) (a1 ^ 5) (10000 ^ 20) (leb-true _ _ (h p));
  }

  above : (n a1 k : ℕ) → 1 < n → NotAbove d n a1 (share_over k n) → row_passes d n a1 k ≡ true
  unfolding units row_passes
  above n a1 k p q = le-leb _ _ (cancelled k n ((130 * d) ^ 5) (a1 ^ 5) (10000 ^ 20) (omega arith) (q.several p))

  -- every row is the window from its lowest dowel
  every : (n a1 : ℕ) → row n a1 → NotAbove d n a1 (share_over e n)
  every n a1 r = below n a1 (λ p.
      let l = from_lowest a b count reach n a1 g.some r in
      eased d (le_refl _) (le_of_eq l.number) (l.closest p) (passed l.dowel l.within))

  -- a window lies in a row
  around : (i : ℕ) → RowAround b count reach (window i)
  around i = row_around b count reach (window i) reaches (window_all_near b count reach (place b i))

  -- at the farthest distance nothing fails
  close : (i k : ℕ) → k ≤ 10000 → row_passes d (number i) (closest i) k ≡ false → Dec (closest i < farthest) → closest i < farthest
  close i k h f (yes p) = p
  close i k h f (no p) =
      let far = far_passes d (number i) k g.thick (le_trans (count_bound (window i) count) g.most) h in
      absurd (true≢false (sym (eased d (le_refl _) (le_refl _) (omega (arith, lt_of_not-le p)) far) ∙ f))

  -- where the window of a dowel fails, the row around it does
  fails_around : (i k : ℕ) → k ≤ 10000 → row_passes d (number i) (closest i) k ≡ false → SomeRowAbove row d k
  fails_around i k top f =
      let w = around i in
      let c = close i k top f (dec_lt (closest i) farthest) in
      let more = count_more (window i) w.in_row count w.has in
      let m : 1 < count_to w.in_row count = omega (arith, more, closest_several a count farthest (window i) c) in
      let l = least_distance a count w.in_row m in
      let less = closest_inside a count farthest (window i) w.in_row w.has in
      let a1-less : l.0 ≤ closest i =
      le_trans (least_closest a count farthest w.in_row l.0 l.1 (lt_of_le_of_lt less c)) less in
      record {
        n = count_to w.in_row count;
        a1 = l.0;
        is = record { in_row = w.in_row; row = w.row; number = refl; distance = λ _. l.1 };
        above = λ q. true≢false (sym (eased d (le_refl _) more a1-less (above (count_to w.in_row count) l.0 k m q)) ∙ f);
      }

  -- so the share is the greatest up to the whole that is not above in any row
  pub share_greatest : (k : ℕ) → k ≤ 10000 → EveryRow row d k → k ≤ e
  unfolding member_share
  share_greatest k top every = greatest_from _ k 10000 top (all_true _ count (λ i h. go i (row_passes d (number i) (closest i) k) refl))
    where
      go : (i : ℕ) (t : Bool) → row_passes d (number i) (closest i) k ≡ t → t ≡ true
      go i true f = refl
      go i false f = let s = fails_around i k top f in absurd (s.above (every s.n s.a1 s.is))

  -- and 1 more, and 2 more, is above in some row
  stopped : e < 10000 → SomeRowAbove row d (e + 2)
  stopped h =
      let s = stops h in
      let r = fails_around s.one (e + 1) (omega arith) s.fails in
      record {
        n = r.n;
        a1 = r.a1;
        is = r.is;
        above = λ q.
            r.above
            (not_above_falls d r.n r.a1 (share_over (e + 1) r.n) (share_over (e + 2) r.n) (lit< tt)
            (omega (arith, mul-le-mul_right r.n (le_succ (e + 1)))) q);
      }
    where
      le_succ : (k : ℕ) → k ≤ k + 1
      le_succ k = omega arith

  -- the whole is above at any row
  whole : 10000 ≤ e → SomeRowAbove row d (e + 2)
  whole h =
      let r = some_row a b count reach reaches in
      let some = row_some a b count reach r.n r.a1 g.some r.is in
      record { n = r.n; a1 = r.a1; is = r.is; above = λ q. omega (arith, q.number, some, mul-le-mul_right r.n h) }

  pub share_bracket : MemberBracket row d e
  share_bracket = record { every = every; some = go (dec_lt e 10000) }
    where
      go : Dec (e < 10000) → SomeRowAbove row d (e + 2)
      go (yes h) = stopped h
      go (no h) = whole (omega (arith, lt_of_not-le h))
