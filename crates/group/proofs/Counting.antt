-- Laws of counting a set of dowels and of the least distance in it.
use mathlib.Core.Path.{◌≡◌, refl, sym, ap, ◌∙◌}
use mathlib.Core.Bool.{Bool, true, false, cond, true≢false}
use mathlib.Core.Logic.{◌⊎◌, inl, inr, ⊎_elim}
use mathlib.Core.List.{List}
use Prim.Native.Nat.{ℕ, zero, suc, ◌+◌, ◌≤◌, ◌<◌, min}
use native.Mathlib.Numerals.{add-one}
use native.Mathlib.Nat.{lt_of_not-le}
use native.Mathlib.Decide.{dec_le, dec_lt, ℕ_discrete}
use native.Mathlib.Omega.{arith}
use lib.IntN.{ℤ}
use Rattle.spacing.specs.Spacing.{place, distance}
use Rattle.spacing.proofs.Integers.{distance_turned}
use Rattle.spacing.proofs.Search.{pick_at_most}
use Rattle.group.specs.Rows.{count_to}
use Rattle.group.specs.Share.{least_to, closest_to}

pub count_bound : (test : ℕ → Bool) (k : ℕ) → count_to test k ≤ k
unfolding count_to
count_bound test zero = omega arith
count_bound test (suc k) =
    let h = count_bound test k in pick_at_most (test k) _ _ _ (omega arith) (omega arith)

-- ---- the least of what passes
below_by :
    (test : ℕ → Bool) (f : ℕ → ℕ) (k j l : ℕ) (b : Bool) → test k ≡ b → test j ≡ true → j < suc k →
    (j < k → l ≤ f j) → cond b (min l (f k)) l ≤ f j
below_by test f k j l b t h q ih = go (dec_lt j k) b t
  where
    go : Dec (j < k) → (b : Bool) → test k ≡ b → cond b (min l (f k)) l ≤ f j
    go (yes p) true t = omega (arith, ih p)
    go (yes p) false t = ih p
    go (no p) true t = let s : k ≡ j = omega (arith, lt_of_not-le p) in rw s (omega arith)
    go (no p) false t =
        let s : k ≡ j = omega (arith, lt_of_not-le p) in
        absurd (true≢false (sym h ∙ ap test (sym s) ∙ t))

pub record One (test : ℕ → Bool) (f : ℕ → ℕ) (k l : ℕ) : Type 0 where
  pub one : ℕ
  pub within : one < k
  pub passes : test one ≡ true
  pub least : l ≡ f one

more : {test : ℕ → Bool} {f : ℕ → ℕ} {k l : ℕ} → One test f k l → One test f (suc k) l
more o = record { one = o.one; within = omega (arith, o.within); passes = o.passes; least = o.least }

module _ (cap : ℕ) (test : ℕ → Bool) (f : ℕ → ℕ) where
  pub least_bound : (k : ℕ) → least_to cap test f k ≤ cap
  unfolding least_to
  least_bound zero = omega arith
  least_bound (suc k) = let h = least_bound k in pick_at_most (test k) _ _ _ (omega arith) h

  -- it is at most each of them
  pub least_below : (k j : ℕ) → j < k → test j ≡ true → least_to cap test f k ≤ f j
  unfolding least_to
  least_below zero j q h = absurd (omega arith)
  least_below (suc k) j q h =
      below_by test f k j (least_to cap test f k) (test k) refl h q (λ p. least_below k j p h)

  -- it is one of them, or the cap
  one_by :
      (k l : ℕ) (b : Bool) → test k ≡ b → (l ≡ cap) ⊎ One test f k l →
      (cond b (min l (f k)) l ≡ cap) ⊎ One test f (suc k) (cond b (min l (f k)) l)
  one_by k l false t (inl e) = inl e
  one_by k l false t (inr o) = inr (more o)
  one_by k l true t s = go (dec_le l (f k)) s
    where
      go : Dec (l ≤ f k) → (l ≡ cap) ⊎ One test f k l → (min l (f k) ≡ cap) ⊎ One test f (suc k) (min l (f k))
      go (yes p) (inl e) = inl (omega arith)
      go (yes p) (inr o) = let s : min l (f k) ≡ l = omega arith in inr (rw s (more o))
      go (no p) s = inr (record { one = k; within = omega arith; passes = t; least = omega (arith, lt_of_not-le p) })

  least_one : (k : ℕ) → (least_to cap test f k ≡ cap) ⊎ One test f k (least_to cap test f k)
  unfolding least_to
  least_one zero = inl refl
  least_one (suc k) = one_by k (least_to cap test f k) (test k) refl (least_one k)

  -- below the cap it is one of them
  pub least_attained : (k : ℕ) → least_to cap test f k < cap → One test f k (least_to cap test f k)
  least_attained k h = ⊎_elim (λ e. absurd (omega arith)) (λ o. o) (least_one k)

  -- it is at least what the cap and each of them are at least
  pub least_from : (k m : ℕ) → m ≤ cap → ((j : ℕ) → j < k → test j ≡ true → m ≤ f j) → m ≤ least_to cap test f k
  unfolding least_to
  least_from zero m h g = h
  least_from (suc k) m h g = go (test k) refl (least_from k m h (λ j q. g j (omega arith)))
    where
      go : (b : Bool) → test k ≡ b → m ≤ least_to cap test f k → m ≤ cond b (min (least_to cap test f k) (f k)) (least_to cap test f k)
      go true t r = omega (arith, g k (omega arith) t)
      go false t r = r

-- ---- how many pass
count_grows : (test : ℕ → Bool) (k : ℕ) → count_to test k ≤ count_to test (suc k)
unfolding count_to
count_grows test k = go (test k)
  where
    go : (b : Bool) → count_to test k ≤ cond b (count_to test k + 1) (count_to test k)
    go true = omega arith
    go false = omega arith

count_here : (test : ℕ → Bool) (k : ℕ) → test k ≡ true → count_to test (suc k) ≡ count_to test k + 1
unfolding count_to
count_here test k h = rw h

some_by :
    (test : ℕ → Bool) (k i : ℕ) → Dec (i < k) → i < suc k → test i ≡ true → (i < k → 1 ≤ count_to test k) →
    1 ≤ count_to test (suc k)
some_by test k i (yes p) h t ih = omega (arith, ih p, count_grows test k)
some_by test k i (no p) h t ih =
    let s : i ≡ k = omega (arith, lt_of_not-le p) in
    omega (arith, count_here test k (rw s at t))

pub count_some : (test : ℕ → Bool) (k i : ℕ) → i < k → test i ≡ true → 1 ≤ count_to test k
count_some test zero i h t = absurd (omega arith)
count_some test (suc k) i h t = some_by test k i (dec_lt i k) h t (λ p. count_some test k i p t)

two_by :
    (test : ℕ → Bool) (k i j : ℕ) → Dec (j < k) → i < j → j < suc k → test i ≡ true → test j ≡ true →
    (j < k → 2 ≤ count_to test k) → 2 ≤ count_to test (suc k)
two_by test k i j (yes p) o h t u ih = omega (arith, ih p, count_grows test k)
two_by test k i j (no p) o h t u ih =
    let s : j ≡ k = omega (arith, lt_of_not-le p) in
    omega (arith, count_here test k (rw s at u), count_some test k i (omega arith) t)

pub count_two :
    (test : ℕ → Bool) (k i j : ℕ) → i < j → j < k → test i ≡ true → test j ≡ true → 2 ≤ count_to test k
count_two test zero i j o h t u = absurd (omega arith)
count_two test (suc k) i j o h t u = two_by test k i j (dec_lt j k) o h t u (λ p. count_two test k i j o p t u)

pub count_longer : (test : ℕ → Bool) (k : ℕ) → count_to test k ≤ count_to test (k + 1)
count_longer test k = rw (add-one k) (count_grows test k)

-- what holds wherever another test does is counted at least as often
pub count_more : (test more : ℕ → Bool) (k : ℕ) → ((i : ℕ) → i < k → test i ≡ true → more i ≡ true) → count_to test k ≤ count_to more k
unfolding count_to
count_more test more zero h = omega arith
count_more test more (suc k) h = go (test k) refl (more k) refl (count_more test more k (λ i l. h i (omega arith)))
  where
    go : (s : Bool) → test k ≡ s → (t : Bool) → more k ≡ t → count_to test k ≤ count_to more k →
        cond s (count_to test k + 1) (count_to test k) ≤ cond t (count_to more k + 1) (count_to more k)
    go true e true f l = omega (arith, l)
    go true e false f l = absurd (true≢false (sym (h k (omega arith) e) ∙ f))
    go false e true f l = omega (arith, l)
    go false e false f l = l

-- where one passes it can be found, and where two pass another than a given one
pub record Another (test : ℕ → Bool) (k o : ℕ) : Type 0 where
  pub one : ℕ
  pub within : one < k
  pub passes : test one ≡ true
  pub differs : one ≡ o → ⊥

wider : {test : ℕ → Bool} {k o : ℕ} → Another test k o → Another test (suc k) o
wider t = record { one = t.one; within = omega (arith, t.within); passes = t.passes; differs = t.differs }

-- an index below k differs from k
find_by :
    (test : ℕ → Bool) (k o : ℕ) (b : Bool) → test k ≡ b → k < o → 1 ≤ cond b (count_to test k + 1) (count_to test k) →
    (1 ≤ count_to test k → Another test k o) → Another test (suc k) o
find_by test k o true t l h ih =
    record { one = k; within = omega arith; passes = t; differs = λ e. omega arith }
find_by test k o false t l h ih = wider (ih h)

find : (test : ℕ → Bool) (k o : ℕ) → k ≤ o → 1 ≤ count_to test k → Another test k o
unfolding count_to
find test zero o l h = absurd (omega arith)
find test (suc k) o l h = find_by test k o (test k) refl l h (λ p. find test k o (omega arith) p)

another_by :
    (test : ℕ → Bool) (k o : ℕ) (b : Bool) → test k ≡ b → 2 ≤ cond b (count_to test k + 1) (count_to test k) →
    (2 ≤ count_to test k → Another test k o) → Another test (suc k) o
another_by test k o false t h ih = wider (ih h)
another_by test k o true t h ih = go (ℕ_discrete k o)
  where
    go : Dec (k ≡ o) → Another test (suc k) o
    go (yes e) = wider (find test k o (omega arith) (omega arith))
    go (no e) = record { one = k; within = omega arith; passes = t; differs = e }

pub another : (test : ℕ → Bool) (k o : ℕ) → 2 ≤ count_to test k → Another test k o
unfolding count_to
another test zero o h = absurd (omega arith)
another test (suc k) o h = another_by test k o (test k) refl h (λ p. another test k o p)

-- ---- the least distance of two that pass
-- two different ones of those below k that pass, and their distance
pub record Two (test : ℕ → Bool) (a : List ℤ) (k l : ℕ) : Type 0 where
  pub one : ℕ
  pub two : ℕ
  pub before : one < two
  pub within : two < k
  pub one_passes : test one ≡ true
  pub two_passes : test two ≡ true
  pub apart : l ≡ distance a two one

module _ (cap : ℕ) (test : ℕ → Bool) (a : List ℤ) where
  pub closest_bound : (k : ℕ) → closest_to cap test a k ≤ cap
  unfolding closest_to
  closest_bound zero = omega arith
  closest_bound (suc k) = let h = closest_bound k in pick_at_most (test k) _ _ _ (omega arith) h

  -- it is at most each of them
  pub closest_below :
      (k i j : ℕ) → i < j → j < k → test i ≡ true → test j ≡ true → closest_to cap test a k ≤ distance a j i
  unfolding closest_to
  closest_below zero i j o q s t = absurd (omega arith)
  closest_below (suc k) i j o q s t = go (dec_lt j k) (λ p. closest_below k i j o p s t)
    where
      go : Dec (j < k) → (j < k → closest_to cap test a k ≤ distance a j i) →
          cond (test k) (min (closest_to cap test a k) (least_to cap test (distance a k) k)) (closest_to cap test a k) ≤ distance a j i
      go (yes p) ih = let h = ih p in pick_at_most (test k) _ _ _ (omega arith) h
      go (no p) ih =
          let e : k ≡ j = omega (arith, lt_of_not-le p) in
          rw (e, t) (omega (arith, least_below cap test (distance a j) j i o s))

  -- in whichever order the two come
  pub closest_least :
      (k i j : ℕ) → i < k → j < k → (i ≡ j → ⊥) → test i ≡ true → test j ≡ true → closest_to cap test a k ≤ distance a i j
  closest_least k i j hi hj n s t = go (dec_lt i j)
    where
      go : Dec (i < j) → closest_to cap test a k ≤ distance a i j
      go (yes p) = rw (distance_turned (place a j) (place a i)) (closest_below k i j p hj s t)
      go (no p) = closest_below k j i (omega (arith, lt_of_not-le p, n)) hi t s

  -- below the cap it is one of them
  pub closest_attained : (k : ℕ) → closest_to cap test a k < cap → Two test a k (closest_to cap test a k)
  unfolding closest_to
  closest_attained zero h = absurd (omega arith)
  closest_attained (suc k) h = go (test k) refl h (closest_attained k)
    where
      further : {l : ℕ} → Two test a k l → Two test a (suc k) l
      further t = record {
        one = t.one;
        two = t.two;
        before = t.before;
        within = omega (arith, t.within);
        one_passes = t.one_passes;
        two_passes = t.two_passes;
        apart = t.apart;
      }

      least : ℕ
      least = least_to cap test (distance a k) k

      pick : Dec (closest_to cap test a k ≤ least) → test k ≡ true → min (closest_to cap test a k) least < cap →
          (closest_to cap test a k < cap → Two test a k (closest_to cap test a k)) → Two test a (suc k) (min (closest_to cap test a k) least)
      pick (yes p) t l ih =
          let e : min (closest_to cap test a k) least ≡ closest_to cap test a k = omega arith in
          rw e (further (ih (omega (arith, l))))
      pick (no p) t l ih =
          let q = lt_of_not-le p in
          let o = least_attained cap test (distance a k) k (omega (arith, l, q)) in
          record {
            one = o.one;
            two = k;
            before = o.within;
            within = omega arith;
            one_passes = o.passes;
            two_passes = t;
            apart = omega (arith, q, o.least);
          }

      go : (b : Bool) → test k ≡ b → cond b (min (closest_to cap test a k) least) (closest_to cap test a k) < cap →
          (closest_to cap test a k < cap → Two test a k (closest_to cap test a k)) →
          Two test a (suc k) (cond b (min (closest_to cap test a k) least) (closest_to cap test a k))
      go true t l ih = pick (dec_le (closest_to cap test a k) least) t l ih
      go false t l ih = further (ih l)

  -- it is at least what the cap and each of them are at least
  pub closest_from :
      (k m : ℕ) → m ≤ cap → ((i j : ℕ) → i < j → j < k → test i ≡ true → test j ≡ true → m ≤ distance a j i) →
      m ≤ closest_to cap test a k
  unfolding closest_to
  closest_from zero m h g = h
  closest_from (suc k) m h g =
      go (test k) refl (closest_from k m h (λ i j o q. g i j o (omega arith)))
    where
      go : (b : Bool) → test k ≡ b → m ≤ closest_to cap test a k →
          m ≤ cond b (min (closest_to cap test a k) (least_to cap test (distance a k) k)) (closest_to cap test a k)
      go true t r = omega (arith, r, least_from cap test (distance a k) k m h (λ i q s. g i k q (omega arith) s t))
      go false t r = r
