-- Every set of dowels each two of which are near lies in one to which none can be added: add dowel after dowel where nothing bars it.
use Prim.Native.Nat.{ℕ, zero, suc, ◌≤◌, ◌<◌}
use mathlib.Core.Path.{◌≡◌, refl, sym, ap, ◌∙◌}
use mathlib.Core.Bool.{Bool, true, false, not, ◌&&◌, ◌||◌, true≢false, and-eq-true_iff}
use mathlib.Core.Logic.{◌⊎◌, inl, inr}
use native.Mathlib.Nat.{lt_of_not-le}
use native.Mathlib.Decide.{dec_lt}
use native.Mathlib.Omega.{arith}
use lib.Dec.{eqb}
use borrow.Author.Tests.{eqb-true, eq-eqb, not-true, not-false}
use Rattle.group.specs.Share.{all_to}
use Rattle.group.proofs.Shares.{all_at, all_fails}

or_left : (a b : Bool) → a ≡ true → a || b ≡ true
or_left true b e = refl
or_left false b e = absurd (true≢false (sym e))

or_right : (a b : Bool) → b ≡ true → a || b ≡ true
or_right true b e = refl
or_right false b e = e

or_cases : (a b : Bool) → a || b ≡ true → (a ≡ true) ⊎ (b ≡ true)
or_cases true b e = inl refl
or_cases false b e = inr e

-- what is not both, and is the one, is not the other
not_both : (a b : Bool) → a ≡ true → not (a && b) ≡ true → b ≡ false
not_both true b p q = not-true b q
not_both false b p q = absurd (true≢false (sym p))

-- `far i j` says that dowels i and j are not near
module _ (far : ℕ → ℕ → Bool) (count : ℕ) where
  -- no dowel of a set bars dowel k
  abbrev free : (ℕ → Bool) → ℕ → Bool
  free t k = all_to (λ j. not (t j && far k j)) count

  abbrev added : (ℕ → Bool) → ℕ → ℕ → Bool
  added t k i = t i || (eqb i k && free t k)

  -- the dowels below k added, one after the other
  unfoldable pub extend : (ℕ → Bool) → ℕ → ℕ → Bool
  extend t zero i = t i
  extend t (suc k) i = added (extend t k) k i

  pub keeps : (t : ℕ → Bool) (k i : ℕ) → t i ≡ true → extend t k i ≡ true
  unfolding extend
  keeps t zero i h = h
  keeps t (suc k) i h = or_left (extend t k i) _ (keeps t k i h)

  later : (t : ℕ → Bool) (k n i : ℕ) → k ≤ n → extend t k i ≡ true → extend t n i ≡ true
  unfolding extend
  later t k zero i l h = let s : k ≡ 0 = omega arith in ap (λ z. extend t z i) (sym s) ∙ h
  later t k (suc n) i l h = go (λ q. later t k n i q h) (dec_lt n k)
    where
      go : (k ≤ n → extend t n i ≡ true) → Dec (n < k) → extend t (suc n) i ≡ true
      go ih (yes q) = let s : k ≡ suc n = omega arith in ap (λ z. extend t z i) (sym s) ∙ h
      go ih (no q) = or_left (extend t n i) _ (ih (omega (arith, lt_of_not-le q)))

  -- ---- near stays
  abbrev Near : (ℕ → Bool) → Type 0
  Near t = (i j : ℕ) → i < count → j < count → t i ≡ true → t j ≡ true → far i j ≡ false

  module _ (flips : (i j : ℕ) → far i j ≡ far j i) (self : (i : ℕ) → far i i ≡ false) where
    added_near : (u : ℕ → Bool) (k : ℕ) → Near u → Near (added u k)
    added_near u k near i j hi hj mi mj = go (or_cases (u i) _ mi) (or_cases (u j) _ mj)
      where
        fresh : (l : ℕ) → eqb l k && free u k ≡ true → (l ≡ k) × ((j : ℕ) → j < count → u j ≡ true → far k j ≡ false)
        fresh l e =
            let p = (and-eq-true_iff (eqb l k) (free u k)).0 e in
            (eqb-true l k p.0, λ j h m. not_both (u j) (far k j) m (all_at _ count p.1 j h))

        go : (u i ≡ true) ⊎ (eqb i k && free u k ≡ true) → (u j ≡ true) ⊎ (eqb j k && free u k ≡ true) → far i j ≡ false
        go (inl a) (inl b) = near i j hi hj a b
        go (inr a) (inl b) = let f = fresh i a in ap (λ z. far z j) f.0 ∙ f.1 j hj b
        go (inl a) (inr b) = let f = fresh j b in flips i j ∙ ap (λ z. far z i) f.0 ∙ f.1 i hi a
        go (inr a) (inr b) = ap (λ z. far i z) ((fresh j b).0 ∙ sym (fresh i a).0) ∙ self i

    pub extend_near : (t : ℕ → Bool) (k : ℕ) → Near t → Near (extend t k)
    unfolding extend
    extend_near t zero near = near
    extend_near t (suc k) near = added_near (extend t k) k (extend_near t k near)

  -- ---- nothing can be added
  pub record By (t : ℕ → Bool) (k : ℕ) : Type 0 where
    pub one : ℕ
    pub within : one < count
    pub member : t one ≡ true
    pub away : far k one ≡ true

  pub extend_whole : (t : ℕ → Bool) (i : ℕ) → i < count → extend t count i ≡ false → By (extend t count) i
  unfolding extend
  extend_whole t i h out = go (free (extend t i) i) refl
    where
      go : (b : Bool) → free (extend t i) i ≡ b → By (extend t count) i
      go true e =
          let inn : extend t (suc i) i ≡ true = or_right (extend t i i) _ (rw (eq-eqb i i refl) e) in
          absurd (true≢false (sym (later t (suc i) count i (omega arith) inn) ∙ out))
      go false e =
          let f = all_fails _ count e in
          let p = (and-eq-true_iff (extend t i f.one) (far i f.one)).0 (not-false _ f.fails) in
          record { one = f.one; within = f.within; member = later t i count f.one (omega arith) p.0; away = p.1 }
