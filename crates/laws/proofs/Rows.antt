-- The rows of a member, and its share, are those of any list of dowels that lie as far from each other, dowel for dowel.
use Prim.Native.Nat.{ℕ, ◌≤◌, ◌<◌}
use mathlib.Core.Path.{◌≡◌, sym, ap, ap₂, ◌∙◌}
use mathlib.Core.Bool.{Bool}
use mathlib.Core.List.{List}
use native.Mathlib.Nat.{le_antisymm}
use lib.IntN.{ℤ}
use Rattle.spacing.specs.Spacing.{distance}
use Rattle.group.specs.Order.{Relisting}
use Rattle.group.specs.Rows.{IsRow, LeastDistance, OfRow, RowsGiven}
use Rattle.group.specs.Share.{member_share}
use Rattle.group.proofs.Relist.{count_relisted}
use Rattle.group.proofs.Bracket.{share_top, share_greatest, share_bracket}

-- dowels at a' and b' lie as far from each other, along and across, as those at a and b to which `there` leads
pub record AsFar (n : ℕ) (a b a' b' : List ℤ) : Type 0 where
  pub there : ℕ → ℕ
  pub back : ℕ → ℕ
  pub turns : Relisting n there back
  pub along : (i j : ℕ) → i < n → j < n → distance a' i j ≡ distance a (there i) (there j)
  pub across : (i j : ℕ) → i < n → j < n → distance b' i j ≡ distance b (there i) (there j)

pub leads :
    {n : ℕ} (there back : ℕ → ℕ) → Relisting n there back → (c c' : List ℤ) →
    ((i j : ℕ) → i < n → j < n → distance c' i j ≡ distance c (there i) (there j)) →
    (i j : ℕ) → i < n → j < n → distance c i j ≡ distance c' (back i) (back j)
leads there back r c c' h i j p q =
    sym
    (h (back i) (back j) (r.back_within i p) (r.back_within j q) ∙ ap₂ (distance c) (r.there_back i p) (r.there_back j q))

-- seen from these
abbrev pub swapped : {n : ℕ} {a b a' b' : List ℤ} → AsFar n a b a' b' → AsFar n a' b' a b
swapped {n} {a} {b} {a'} {b'} f = record {
  there = f.back;
  back = f.there;
  turns = record {
    there_within = f.turns.back_within;
    back_within = f.turns.there_within;
    back_there = f.turns.there_back;
    there_back = f.turns.back_there;
  };
  along = leads f.there f.back f.turns a a' f.along;
  across = leads f.there f.back f.turns b b' f.across;
}

module _ (n reach : ℕ) (a b a' b' : List ℤ) (f : AsFar n a b a' b') where
  abbrev g : AsFar n a' b' a b
  g = swapped f

  -- a set of the second's dowels, by the first's numbers
  abbrev led : (ℕ → Bool) → ℕ → Bool
  led t i = t (f.back i)

  here : (t : ℕ → Bool) (i : ℕ) → i < n → led t (f.there i) ≡ t i
  here t i h = ap t (f.turns.back_there i h)

  row_led : (t : ℕ → Bool) → IsRow b' n reach t → IsRow b n reach (led t)
  row_led t r = record {
    near = λ i j p q s u. rw (g.across i j p q) (r.near (f.back i) (f.back j) (g.turns.there_within i p) (g.turns.there_within j q) s u);
    full = λ i p s.
        let x = r.full (f.back i) (g.turns.there_within i p) s in
        let w = f.turns.there_within x.by x.within in
        record {
          by = f.there x.by;
          within = w;
          member = here t x.by x.within ∙ x.member;
          far = rw (g.across i (f.there x.by) p w, f.turns.back_there x.by x.within) x.far;
        };
  }

  least_led : (t : ℕ → Bool) (a1 : ℕ) → LeastDistance a' n t a1 → LeastDistance a n (led t) a1
  least_led t a1 l = record {
    one = f.there l.one;
    two = f.there l.two;
    one_within = f.turns.there_within l.one l.one_within;
    two_within = f.turns.there_within l.two l.two_within;
    differ = λ e. l.differ (sym (f.turns.back_there l.one l.one_within) ∙ ap f.back e ∙ f.turns.back_there l.two l.two_within);
    one_row = here t l.one l.one_within ∙ l.one_row;
    two_row = here t l.two l.two_within ∙ l.two_row;
    attained = l.attained ∙ f.along l.one l.two l.one_within l.two_within;
    least = λ j k p q d s u.
        rw (g.along j k p q)
        (l.least (f.back j) (f.back k) (g.turns.there_within j p) (g.turns.there_within k q)
        (λ e. d (sym (f.turns.there_back j p) ∙ ap f.there e ∙ f.turns.there_back k q)) s u);
  }

  -- the same n and a1
  pub of_row_led : (m a1 : ℕ) → OfRow a' b' n reach m a1 → OfRow a b n reach m a1
  of_row_led m a1 r = record {
    in_row = led r.in_row;
    row = row_led r.in_row r.row;
    number = r.number ∙ count_relisted n (led r.in_row) r.in_row f.there f.back f.turns (λ i h. sym (here r.in_row i h));
    distance = λ p. least_led r.in_row a1 (r.distance p);
  }

-- ---- the share: the greatest that is above in no row
module _ (d n reach : ℕ) (g : RowsGiven d reach n) where
  share_most : (a b a' b' : List ℤ) → AsFar n a b a' b' → member_share d reach a' b' n ≤ member_share d reach a b n
  share_most a b a' b' f =
      share_greatest d reach a b n g (member_share d reach a' b' n) (share_top d reach a' b' n g)
      (λ m a1 r. (share_bracket d reach a' b' n g).every m a1 (of_row_led n reach a' b' a b (swapped f) m a1 r))

  pub share_same : (a b a' b' : List ℤ) → AsFar n a b a' b' → member_share d reach a' b' n ≡ member_share d reach a b n
  share_same a b a' b' f = le_antisymm (share_most a b a' b' f) (share_most a' b' a b (swapped f))
