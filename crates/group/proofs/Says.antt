-- What the definition of a row says.
use Prim.Native.Nat.{ℕ, ◌+◌, ◌≤◌, ◌<◌}
use mathlib.Core.Path.{◌≡◌, refl, sym, ap₂, ◌∙◌}
use mathlib.Core.Bool.{Bool, true, false, ◌&&◌, and-eq-true_iff}
use mathlib.Core.Logic.{⊎_elim}
use mathlib.Core.List.{List}
use native.Mathlib.Nat.{le_trans, le_of_eq}
use native.Mathlib.Omega.{arith}
use borrow.Author.Tests.{eqb-true, eqb-false, eq-eqb, ne_eqb, ltb-true, lt-ltb}
use lib.Dec.{eqb, ltb}
use lib.IntN.{ℤ, nat_abs, ◌-ℤ◌}
use Rattle.spacing.specs.Spacing.{place, distance}
use Rattle.spacing.proofs.Integers.{distance_turned, no_distance, same_place}
use Rattle.group.specs.Rows.{count_to, IsRow, LeastDistance, OfRow, RowsGiven}
use Rattle.group.specs.Share.{member_share}
use Rattle.group.specs.Says.{SameAcross, InLine, SameRows, NeverRaised}
use Rattle.group.proofs.Counting.{count_more, count_longer}
use Rattle.group.proofs.Effective.{not_above_eased}
use Rattle.group.proofs.Bracket.{share_top, share_greatest, share_bracket}
use Rattle.group.proofs.RowLaws.{AllNear, Lowest, row_lowest, RowAround, row_around, some_distance, row_some}

-- ---- dowels in line
module _ (b : List ℤ) (count reach : ℕ) (reaches : 1 ≤ reach) (line : InLine b count reach) where
  -- two dowels at no distance from a third are at none from each other
  together : (i j k : ℕ) → distance b k i ≡ 0 → distance b k j ≡ 0 → distance b i j ≡ 0
  together i j k p q =
      let x = same_place (place b k) (place b i) p in
      let y = same_place (place b k) (place b j) q in
      ap₂ (λ u v. nat_abs (u -ℤ v)) (sym x) (sym y) ∙ no_distance (place b k)

  module _ (t : ℕ → Bool) where
    there : IsRow b count reach t → (0 < count) → SameAcross b count t
    there r some = record { dowel = o.one; within = o.within; has = has }
      where
        o : Lowest b count reach t count
        o = row_lowest b count reach t some r

        -- dowel j lies with the row's dowel, or d or more away
        with_it : (j : ℕ) → j < count → distance b o.one j ≡ 0 → (s : Bool) → t j ≡ s → t j ≡ true
        with_it j h e true f = f
        with_it j h e false f =
            let w = r.full j h f in
            ⊎_elim
            (λ z. absurd (omega (arith, w.far, together j w.by o.one e z)))
            (λ l. absurd (omega (arith, l, r.near o.one w.by o.within w.within o.passes w.member)))
            (line o.one w.by o.within w.within)

        away : (j : ℕ) → j < count → reach ≤ distance b o.one j → (s : Bool) → t j ≡ s → t j ≡ false
        away j h l true f = absurd (omega (arith, l, r.near o.one j o.within h o.passes f))
        away j h l false f = f

        has : (j : ℕ) → j < count → t j ≡ eqb (distance b o.one j) 0
        has j h =
            ⊎_elim
            (λ e. with_it j h e (t j) refl ∙ sym (eq-eqb _ _ e))
            (λ l. away j h l (t j) refl ∙ sym (ne_eqb (distance b o.one j) 0 (λ e. absurd (omega (arith, l, e)))))
            (line o.one j o.within h)

    back : SameAcross b count t → IsRow b count reach t
    back s = record {
      near = λ i j hi hj ti tj.
          let p = eqb-true (distance b s.dowel i) 0 (sym (s.has i hi) ∙ ti) in
          let q = eqb-true (distance b s.dowel j) 0 (sym (s.has j hj) ∙ tj) in
          omega (arith, together i j s.dowel p q);
      full = λ i h out. record {
        by = s.dowel;
        within = s.within;
        member = s.has s.dowel s.within ∙ eq-eqb _ _ (no_distance (place b s.dowel));
        far =
            ⊎_elim
            (λ e. absurd (eqb-false _ _ (sym (s.has i h) ∙ out) e))
            (λ l. rw (distance_turned (place b s.dowel) (place b i)) l)
            (line s.dowel i s.within h);
      };
    }

    pub rows_in_line : 1 ≤ count → SameRows b count reach t
    rows_in_line some = record { there = λ r. there r some; back = back }

-- ---- one dowel more
module _ (d reach : ℕ) (a b : List ℤ) (count : ℕ) (reaches : 1 ≤ reach) where
  -- the dowels of a set that were there before
  abbrev old : (ℕ → Bool) → ℕ → Bool
  old t i = t i && ltb i count

  -- a row lies in one with the dowel more, which has no fewer dowels and no greater distance
  pub record Longer (n a1 : ℕ) : Type 0 where
    pub number : ℕ
    pub distance : ℕ
    pub is : OfRow a b (count + 1) reach number distance
    pub more : n ≤ number
    pub nearer : 1 < n → distance ≤ a1

  longer : (n a1 : ℕ) → OfRow a b count reach n a1 → Longer n a1
  longer n a1 r = record {
    number = count_to w.in_row (count + 1);
    distance = f.0;
    is = record { in_row = w.in_row; row = w.row; number = refl; distance = f.1 };
    more = more;
    nearer = λ p.
        let l = r.distance p in
        le_trans
        ((f.1 (omega (arith, p, more))).least l.one l.two (omega (arith, l.one_within)) (omega (arith, l.two_within))
        l.differ (in_it l.one l.one_within l.one_row) (in_it l.two l.two_within l.two_row))
        (le_of_eq (sym l.attained));
  }
    where
      t : ℕ → Bool
      t = r.in_row

      near : AllNear b (count + 1) reach (old t)
      near i j hi hj p q =
          let x = (and-eq-true_iff (t i) (ltb i count)).0 p in
          let y = (and-eq-true_iff (t j) (ltb j count)).0 q in
          r.row.near i j (ltb-true i count x.1) (ltb-true j count y.1) x.0 y.0

      w : RowAround b (count + 1) reach (old t)
      w = row_around b (count + 1) reach (old t) reaches near

      f : (a1 : ℕ) × (1 < count_to w.in_row (count + 1) → LeastDistance a (count + 1) w.in_row a1)
      f = some_distance a (count + 1) w.in_row

      in_it : (i : ℕ) → i < count → t i ≡ true → w.in_row i ≡ true
      in_it i h e = w.has i (omega arith) (rw (e, lt-ltb i count h))

      more : n ≤ count_to w.in_row (count + 1)
      more =
          le_trans (le_of_eq r.number) (le_trans (count_more t w.in_row count in_it) (count_longer w.in_row count))

  pub one_more : NeverRaised a b count reach d
  one_more e every n a1 r =
      let l = longer n a1 r in
      let some = row_some a b (count + 1) reach l.number l.distance (omega arith) l.is in
      not_above_eased d n l.number a1 l.distance e some l.more l.nearer (every l.number l.distance l.is)

  -- nor does it raise the share that is returned
  pub share_one_more :
      1 ≤ count → RowsGiven d reach (count + 1) → member_share d reach a b (count + 1) ≤ member_share d reach a b count
  share_one_more some g =
      share_greatest d reach a b count
      (record { thick = g.thick; reaches = g.reaches; some = some; most = omega (arith, g.most) })
      (member_share d reach a b (count + 1)) (share_top d reach a b (count + 1) g)
      (one_more (member_share d reach a b (count + 1)) (share_bracket d reach a b (count + 1) g).every)
