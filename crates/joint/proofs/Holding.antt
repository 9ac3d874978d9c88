-- The first test that holds: its number, where it stands, and back.
use Prim.Native.Nat.{ℕ, zero, suc, ◌+◌, ◌≤◌, ◌<◌, suc-le-suc}
use native.Mathlib.Nat.{not-suc-le-zero, le_of_suc-le-suc}
use native.Mathlib.Decide.{ℕ_discrete}
use native.Mathlib.Omega.{arith}
use mathlib.Core.Path.{◌≡◌, refl, sym, ap, ◌∙◌}
use mathlib.Core.List.{List, [], ◌∷◌, ◌++◌}
use mathlib.Core.Bool.{Bool, true, false, ◌&&◌, and-eq-true_iff}
use mathlib.Core.Logic.{◌↔◌}
use lib.Dec.{ltb, eqb}
use borrow.Author.Tests.{ltb-true, eqb-true}
use lib.ListN.{length, get_or}
use Rattle.joint.specs.Order.{FirstAt, NoneHolds, holding}
use Rattle.tables.specs.Tests.{Test, first_holding, numbered}

-- where the first test that holds stands, the first of all standing at k; 0 where none holds
unfoldable pub first_place : ℕ → List Bool → ℕ
first_place k [] = 0
first_place k (true ∷ tests) = k
first_place k (false ∷ tests) = first_place (suc k) tests

-- ---- from the tests to the place
hit : (k j : ℕ) (l : List Bool) → FirstAt l j → first_place k l ≡ j + k
unfolding first_place
hit k j [] h = cc h.holds
hit k zero (true ∷ l) h = omega arith
hit k (suc j) (true ∷ l) h = cc (h.before 0 (omega arith))
hit k zero (false ∷ l) h = cc h.holds
hit k (suc j) (false ∷ l) h =
    hit (suc k) j l (record { holds = h.holds; before = λ i g. h.before (suc i) (suc-le-suc g) }) ∙ omega arith

miss : (k : ℕ) (l : List Bool) → NoneHolds l → first_place k l ≡ 0
unfolding first_place
miss k [] h = refl
miss k (true ∷ l) h = cc (h.none 0)
miss k (false ∷ l) h = miss (suc k) l (record { none = λ i. h.none (suc i) })

-- ---- and back
none_in_nil : NoneHolds []
none_in_nil = record { none = λ i. refl }

none_holds : (k : ℕ) (l : List Bool) → first_place (suc k) l ≡ 0 → NoneHolds l
unfolding first_place
none_holds k [] h = none_in_nil
none_holds k (true ∷ l) h = absurd (omega arith)
none_holds k (false ∷ l) h = record { none = at (none_holds (suc k) l h) }
  where
    at : NoneHolds l → (i : ℕ) → get_or (false ∷ l) i false ≡ false
    at n zero = refl
    at n (suc i) = n.none i

least : (k n : ℕ) (l : List Bool) → first_place (suc k) l ≡ suc n → k ≤ n
unfolding first_place
least k n [] h = omega arith
least k n (true ∷ l) h = omega arith
least k n (false ∷ l) h = let g = least (suc k) n l h in omega arith

back_hit : (k j : ℕ) (l : List Bool) → first_place (suc k) l ≡ j + suc k → FirstAt l j
unfolding first_place
back_hit k j [] h = absurd (omega arith)
back_hit k zero (true ∷ l) h = record { holds = refl; before = λ i g. absurd (not-suc-le-zero g) }
back_hit k (suc j) (true ∷ l) h = absurd (omega arith)
back_hit k zero (false ∷ l) h = let g = least (suc k) k l (h ∙ omega arith) in absurd (omega arith)
back_hit k (suc j) (false ∷ l) h =
    let r = back_hit (suc k) j l (h ∙ omega arith) in record { holds = r.holds; before = at r }
  where
    at : FirstAt l j → (i : ℕ) → i < suc j → get_or (false ∷ l) i false ≡ false
    at r zero g = refl
    at r (suc i) g = r.before i (le_of_suc-le-suc g)

pub exactly : (j : ℕ) (l : List Bool) → (first_place 1 l ≡ suc j) ↔ FirstAt l j
exactly j l = (λ h. back_hit 0 j l (h ∙ omega arith), λ h. hit 1 j l h ∙ omega arith)

pub exactly_none : (l : List Bool) → (first_place 1 l ≡ 0) ↔ NoneHolds l
exactly_none l = (none_holds 0 l, miss 1 l)

-- ---- tests before others
pub place_zero : (k n : ℕ) (xs ys : List Bool) → first_place (suc k) xs ≡ 0 → length xs + suc k ≡ n
    → first_place (suc k) (xs ++ ys) ≡ first_place n ys
unfolding first_place
place_zero k n [] ys h e = ap (λ (m : ℕ). first_place m ys) (omega arith)
place_zero k n (true ∷ xs) ys h e = absurd (omega arith)
place_zero k n (false ∷ xs) ys h e = place_zero (suc k) n xs ys h (omega arith)

pub place_kept : (k : ℕ) (xs ys : List Bool) → (first_place (suc k) xs ≡ 0 → ⊥) → first_place (suc k) (xs ++ ys) ≡ first_place (suc k) xs
unfolding first_place
place_kept k [] ys h = absurd (h refl)
place_kept k (true ∷ xs) ys h = refl
place_kept k (false ∷ xs) ys h = place_kept (suc k) xs ys h

-- ---- the number of the first test that holds
-- t's number, where t holds
module _ (t : Test) (l : List Test) where
  taken : t.holds ≡ true → first_holding (t ∷ l) ≡ t.number
  unfolding first_holding
  taken e = simp e

  left : t.holds ≡ false → first_holding (t ∷ l) ≡ first_holding l
  unfolding first_holding
  left e = simp e

pub no_number : (l : List Test) → numbered l ≡ true → first_holding l ≡ 0 → NoneHolds (holding l)
unfolding numbered
no_number [] n h = none_in_nil
no_number (t ∷ l) n h =
    let p = (and-eq-true_iff (ltb 0 t.number) (numbered l)).0 n in of t.holds refl p.0 (no_number l p.1)
  where
    later : NoneHolds (holding l) → t.holds ≡ false → (i : ℕ) → get_or (holding (t ∷ l)) i false ≡ false
    later q e zero = e
    later q e (suc i) = q.none i

    of : (b : Bool) → t.holds ≡ b → ltb 0 t.number ≡ true → (first_holding l ≡ 0 → NoneHolds (holding l)) → NoneHolds (holding (t ∷ l))
    of true e p r = let z : 0 < t.number = ltb-true _ _ p in absurd (omega (arith, taken t l e, h))
    of false e p r = record { none = later (r (sym (left t l e) ∙ h)) e }

-- tests before others
pub first_zero : (xs ys : List Test) → numbered xs ≡ true → first_holding xs ≡ 0 → first_holding (xs ++ ys) ≡ first_holding ys
unfolding numbered first_holding
first_zero [] ys n h = refl
first_zero (t ∷ xs) ys n h =
    let p = (and-eq-true_iff (ltb 0 t.number) (numbered xs)).0 n in of t.holds refl p.0 (first_zero xs ys p.1)
  where
    of : (b : Bool) → t.holds ≡ b → ltb 0 t.number ≡ true → (first_holding xs ≡ 0 → first_holding (xs ++ ys) ≡ first_holding ys)
        → first_holding (t ∷ (xs ++ ys)) ≡ first_holding ys
    of true e p r = let z : 0 < t.number = ltb-true _ _ p in absurd (omega (arith, taken t xs e, h))
    of false e p r = left t (xs ++ ys) e ∙ r (sym (left t xs e) ∙ h)

pub first_kept : (xs ys : List Test) → (first_holding xs ≡ 0 → ⊥) → first_holding (xs ++ ys) ≡ first_holding xs
unfolding first_holding
first_kept [] ys h = absurd (h refl)
first_kept (t ∷ xs) ys h = of t.holds refl (first_kept xs ys)
  where
    of : (b : Bool) → t.holds ≡ b → ((first_holding xs ≡ 0 → ⊥) → first_holding (xs ++ ys) ≡ first_holding xs)
        → first_holding (t ∷ (xs ++ ys)) ≡ first_holding (t ∷ xs)
    of true e r = taken t (xs ++ ys) e ∙ sym (taken t xs e)
    of false e r = left t (xs ++ ys) e ∙ r (λ z. h (left t xs e ∙ z)) ∙ sym (left t xs e)

-- none of two lists holds
pub both_zero : (xs ys : List Test) → numbered xs ≡ true → first_holding (xs ++ ys) ≡ 0 → (first_holding xs ≡ 0) × (first_holding ys ≡ 0)
both_zero xs ys n h = go (ℕ_discrete (first_holding xs) 0)
  where
    go : Dec (first_holding xs ≡ 0) → (first_holding xs ≡ 0) × (first_holding ys ≡ 0)
    go (yes z) = (z, sym (first_zero xs ys n z) ∙ h)
    go (no f) = absurd (f (sym (first_kept xs ys f) ∙ h))

-- ---- where the numbers count up from k, a number is its test's place
unfoldable pub counts_from : ℕ → List Test → Bool
counts_from k [] = true
counts_from k (t ∷ tests) = eqb t.number k && counts_from (suc k) tests

pub by_place : (k : ℕ) (l : List Test) → counts_from k l ≡ true → first_holding l ≡ first_place k (holding l)
unfolding counts_from first_holding first_place
by_place k [] n = refl
by_place k (t ∷ l) n =
    let p = (and-eq-true_iff (eqb t.number k) (counts_from (suc k) l)).0 n in
    of t.holds refl (eqb-true _ _ p.0) (by_place (suc k) l p.1)
  where
    of : (b : Bool) → t.holds ≡ b → t.number ≡ k → first_holding l ≡ first_place (suc k) (holding l)
        → first_holding (t ∷ l) ≡ first_place k (t.holds ∷ holding l)
    of true e p r = taken t l e ∙ p ∙ ap (λ (b : Bool). first_place k (b ∷ holding l)) (sym e)
    of false e p r = left t l e ∙ r ∙ ap (λ (b : Bool). first_place k (b ∷ holding l)) (sym e)
