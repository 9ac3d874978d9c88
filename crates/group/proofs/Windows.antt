-- A pass over the dowels in their order along sees each window of a member as it is; a member's share does not ask the order of the list.
use Prim.Native.Nat.{ℕ, ◌≤◌, ◌<◌}
use mathlib.Core.Path.{◌≡◌, refl, sym, ap, ap₂, ◌∙◌}
use mathlib.Core.Bool.{Bool, true, false}
use mathlib.Core.List.{List}
use native.Mathlib.Nat.{le_refl}
use lib.IntN.{ℤ}
use Rattle.spacing.specs.Spacing.{place}
use Rattle.group.specs.declared.rows.Row.{Row}
use Rattle.group.specs.Order.{Relisting}
use Rattle.group.specs.Listing.{Listed, Relisted, InOrder}
use Rattle.group.specs.Share.{in_window, window_number, window_closest, row_passes, all_to, greatest_to, member_share, window_seen, WorstOf}
use Rattle.group.proofs.Relist.{window_number_lem, window_closest_lem}
use Rattle.group.proofs.SeenLaws.{seen_count, seen_least}
use Rattle.group.proofs.Shares.{all_true, all_at, all_same, greatest_same}

module _ (a b : List ℤ) (count : ℕ) (l : Listed) (o : InOrder count a b l) where
  abbrev from : Listed
  from = record { along = a; across = b }

  number_is : (reach : ℕ) (z : ℤ) → (window_seen l.along l.across count reach z).number ≡ window_number b count reach z
  number_is reach z =
      seen_count (in_window l.across reach z) l.along count ∙ window_number_lem count from l o.relisted reach z

  closest_is : (reach : ℕ) (z : ℤ) → (window_seen l.along l.across count reach z).least ≡ window_closest a b count reach z
  closest_is reach z =
      seen_least (in_window l.across reach z) l.along count o.rising count (le_refl _)
      ∙ window_closest_lem count from l o.relisted reach z

  -- so the worst of the windows from the dowels gives the member's share
  pub worst_share :
      (d reach : ℕ) (starts : List ℤ) (worst : Row) (e : ℕ) → d ≤ 30 →
      ((i : ℕ) → i < count → place starts i ≡ place b i) → WorstOf reach l.along l.across count starts count worst →
      e ≡ greatest_to (row_passes d worst.number worst.least) 10000 → e ≡ member_share d reach a b count
  unfolding member_share
  worst_share d reach starts worst e thick same w is =
      is
      ∙ greatest_same _ _ 10000 (λ k h.
      w.passes d k thick h
      ∙ all_same _ _ count (λ i q.
      ap₂ (λ n c. row_passes d n c k) (number_is reach (place starts i)) (closest_is reach (place starts i))
      ∙ ap (λ z. row_passes d (window_number b count reach z) (window_closest a b count reach z) k) (same i q)))

-- ---- the share does not ask the order of the list
-- all below n pass, taken in another order
all_relisted : (t : ℕ → Bool) (n : ℕ) (σ τ : ℕ → ℕ) → Relisting n σ τ → all_to (λ i. t (σ i)) n ≡ all_to t n
all_relisted t n σ τ r = go (all_to (λ i. t (σ i)) n) refl (all_to t n) refl
  where
    there : all_to t n ≡ true → all_to (λ i. t (σ i)) n ≡ true
    there e = all_true _ n (λ i h. all_at t n e (σ i) (r.there_within i h))

    back : all_to (λ i. t (σ i)) n ≡ true → all_to t n ≡ true
    back e = all_true t n (λ i h. sym (ap t (r.there_back i h)) ∙ all_at _ n e (τ i) (r.back_within i h))

    go : (p : Bool) → all_to (λ i. t (σ i)) n ≡ p → (q : Bool) → all_to t n ≡ q → p ≡ q
    go true e true f = refl
    go true e false f = sym (back e) ∙ f
    go false e true f = sym e ∙ there f
    go false e false f = refl

pub share_relisted :
    (d reach n : ℕ) (from l : Listed) → Relisted n from l →
    member_share d reach l.along l.across n ≡ member_share d reach from.along from.across n
unfolding member_share
share_relisted d reach n from l r =
    greatest_same _ _ 10000 (λ k h.
    all_same _ _ n (λ i q. same k (place l.across i) ∙ ap (passes k) (r.across i q))
    ∙ all_relisted (at k) n r.there r.back r.turns)
  where
    passes : ℕ → ℤ → Bool
    passes k z =
        row_passes d (window_number from.across n reach z) (window_closest from.along from.across n reach z) k

    at : ℕ → ℕ → Bool
    at k i = passes k (place from.across i)

    same :
        (k : ℕ) (z : ℤ) →
        row_passes d (window_number l.across n reach z) (window_closest l.along l.across n reach z) k ≡ passes k z
    same k z = ap₂ (λ m c. row_passes d m c k) (window_number_lem n from l r reach z) (window_closest_lem n from l r reach z)
