-- Laws of the share: which shares a row passes, and the greatest of them.
use mathlib.Core.Path.{◌≡◌, refl, sym, ap, ◌∙◌}
use mathlib.Core.Bool.{Bool, true, false, cond, ◌&&◌, true≢false, and-eq-true_iff, and-false}
use Prim.Native.Nat.{ℕ, zero, suc, ◌+◌, ◌*◌, ◌^◌, ◌≤◌, ◌<◌}
use native.Mathlib.Nat.{mul-le-mul, mul-le-mul_left, mul-le-mul_right, le_trans, lt_of_lt_of_le, le_of_lt, lt_of_not-le, pow-le-pow_left, pow-suc}
use native.Mathlib.Nat.{pow-zero, le_refl, le_of_mul-le-mul_right, mul-pos, mul_comm}
use native.Mathlib.Decide.{dec_le, dec_lt}
use native.Mathlib.Numerals.{add-one}
use native.Mathlib.Omega.{arith}
use borrow.Author.Tests.{le-leb, lt-leb, leb-true}
use lib.Dec.{leb, lit≤}
use Rattle.wide.proofs.Bits.{product_bits}
use Rattle.wide.proofs.Powers.{fifth_is}
use Rattle.strength.specs.Roots.{FactorWithin}
use Rattle.group.specs.Share.{units, farthest, row_passes, all_to, greatest_to, GreatestShare}
use Rattle.group.proofs.Sizes.{unit5, number2}

pub fourth : (e : ℕ) → e * e * (e * e) ≡ e ^ 4
fourth e = rw (pow-suc e 3, pow-suc e 2, pow-suc e 1, pow-suc e 0, pow-zero e) (omega arith)

power20 : {a b : ℕ} → a ≤ b → (a ^ 4) ^ 5 ≤ (b ^ 4) ^ 5
power20 h = pow-le-pow_left (pow-le-pow_left h 4) 5

-- n² (130 d)^5 has 73 bits
pub factor_within : {d n : ℕ} → d ≤ 30 → n ≤ 64 → FactorWithin (n * n * (130 * d) ^ 5)
factor_within {d} {n} h m = record {
  high = rw (← (fifth_is (130 * d))) (lt_of_lt_of_le (product_bits 13 60 (number2 m) (unit5 h)) (omega arith));
}

-- ---- the shares that a row passes
-- a lesser share of a row that is no longer and no closer passes too
pub eased :
    (d : ℕ) {n n' a a' e e' : ℕ} → e' ≤ e → n' ≤ n → a ≤ a' → row_passes d n a e ≡ true → row_passes d n' a' e' ≡ true
unfolding row_passes
eased d he hn ha h =
    le-leb _ _
    (le_trans (mul-le-mul (power20 he) (mul-le-mul_left ((130 * d) ^ 5) (mul-le-mul hn hn)))
    (le_trans (leb-true _ _ h) (mul-le-mul_left units (pow-le-pow_left ha 5))))

pub nothing_passes : (d n a : ℕ) → row_passes d n a 0 ≡ true
unfolding row_passes
nothing_passes d n a = le-leb ((0 ^ 4) ^ 5 * ((130 * d) ^ 5 * (n * n))) (units * a ^ 5) (omega arith)

-- at the farthest distance every share up to the whole passes
pub far_passes : (d n e : ℕ) → d ≤ 30 → n ≤ 64 → e ≤ 10000 → row_passes d n farthest e ≡ true
unfolding row_passes units
far_passes d n e hd hn he =
    let u : 130 * d ≤ 3900 = omega arith in
    let far : 3900 ^ 5 * (64 * 64) ≤ farthest ^ 5 = lit≤ tt in
    le-leb _ _
    (le_trans (mul-le-mul (power20 he) (mul-le-mul (pow-le-pow_left u 5) (mul-le-mul hn hn)))
    (mul-le-mul_left ((10000 ^ 4) ^ 5) far))

crossed :
    (P Q U n n' A A' : ℕ) → 1 ≤ n → n' * n' * A ≤ n * n * A' → P * (Q * (n * n)) ≤ U * A → P * (Q * (n' * n')) ≤ U * A'
crossed P Q U n n' A A' s h p =
    le_of_mul-le-mul_right {k = n * n}
    (omega (arith, mul-le-mul_right (n' * n') p, mul-le-mul_left U h))
    (mul-pos s s)

-- a row whose n²/a^5 is no greater passes what the other passes
lighter :
    (d n a n' a' e : ℕ) → 1 ≤ n → n' * n' * a ^ 5 ≤ n * n * a' ^ 5 → row_passes d n a e ≡ true → row_passes d n' a' e ≡ true
unfolding row_passes
lighter d n a n' a' e s h p =
    le-leb _ _ (crossed ((e ^ 4) ^ 5) ((130 * d) ^ 5) units n n' (a ^ 5) (a' ^ 5) s h (leb-true _ _ p))

-- a test that holds wherever another does
and_after : (s t : Bool) → (t ≡ true → s ≡ true) → t ≡ s && t
and_after true t h = refl
and_after false true h = sym (h refl)
and_after false false h = refl

and_before : (s t : Bool) → (s ≡ true → t ≡ true) → s ≡ s && t
and_before true t h = sym (h refl)
and_before false t h = refl

-- of two rows the one with the greater n²/a^5 decides
module _ (n a n' a' : ℕ) where
  pub first_decides :
      1 ≤ n → n' * n' * a ^ 5 ≤ n * n * a' ^ 5 → (d e : ℕ) → row_passes d n a e ≡ row_passes d n' a' e && row_passes d n a e
  first_decides s h d e = and_after _ _ (lighter d n a n' a' e s h)

  pub second_decides :
      1 ≤ n' → n * n * a' ^ 5 ≤ n' * n' * a ^ 5 → (d e : ℕ) → row_passes d n' a' e ≡ row_passes d n' a' e && row_passes d n a e
  second_decides s h d e = and_before _ _ (lighter d n' a' n a e s h)

-- a product above another number has no factor 0
pub some_factor : (x n k : ℕ) → x < n * n * k → 1 ≤ n
some_factor x zero k h = absurd (omega arith)
some_factor x (suc n) k h = omega arith

-- ---- every index below k
pub all_true : (test : ℕ → Bool) (k : ℕ) → ((i : ℕ) → i < k → test i ≡ true) → all_to test k ≡ true
unfolding all_to
all_true test zero h = refl
all_true test (suc k) h = rw (h k (omega arith)) (all_true test k (λ i q. h i (omega arith)))

pub all_on : (test : ℕ → Bool) (k : ℕ) → all_to test (k + 1) ≡ test k && all_to test k
unfolding all_to
all_on test k = ap (all_to test) (add-one k)

pub all_at : (test : ℕ → Bool) (k : ℕ) → all_to test k ≡ true → (i : ℕ) → i < k → test i ≡ true
unfolding all_to
all_at test zero h i l = absurd (omega arith)
all_at test (suc k) h i l =
    let p = (and-eq-true_iff (test k) (all_to test k)).0 h in go (dec_lt i k) p.0 (all_at test k p.1)
  where
    go : Dec (i < k) → test k ≡ true → ((j : ℕ) → j < k → test j ≡ true) → test i ≡ true
    go (yes q) t r = r i q
    go (no q) t r = let s : i ≡ k = omega (arith, lt_of_not-le q) in rw s t

-- tests that agree
pub all_same : (test other : ℕ → Bool) (k : ℕ) → ((i : ℕ) → i < k → test i ≡ other i) → all_to test k ≡ all_to other k
unfolding all_to
all_same test other zero h = refl
all_same test other (suc k) h = rw (h k (omega arith), all_same test other k (λ i l. h i (omega arith)))

-- an index that passes where an earlier one does
pub all_again : (test : ℕ → Bool) (k j : ℕ) → j < k → test k ≡ test j → all_to test (k + 1) ≡ all_to test k
all_again test k j h e = all_on test k ∙ go (all_to test k) refl
  where
    go : (b : Bool) → all_to test k ≡ b → test k && all_to test k ≡ all_to test k
    go true a = rw (a, e, all_at test k a j h)
    go false a = rw a (and-false (test k))

pub record Fails (test : ℕ → Bool) (k : ℕ) : Type 0 where
  pub one : ℕ
  pub within : one < k
  pub fails : test one ≡ false

pub all_fails : (test : ℕ → Bool) (k : ℕ) → all_to test k ≡ false → Fails test k
unfolding all_to
all_fails test zero h = absurd (true≢false h)
all_fails test (suc k) h = go (test k) refl h (all_fails test k)
  where
    go : (b : Bool) → test k ≡ b → b && all_to test k ≡ false → (all_to test k ≡ false → Fails test k) → Fails test (suc k)
    go true t q ih = let f = ih q in record { one = f.one; within = omega (arith, f.within); fails = f.fails }
    go false t q ih = record { one = k; within = omega arith; fails = t }

-- ---- the greatest number that passes a test
pub record Greatest (test : ℕ → Bool) (e r : ℕ) : Type 0 where
  pub bound : r ≤ e
  pub passes : 0 < r → test r ≡ true
  pub above : (k : ℕ) → r < k → k ≤ e → test k ≡ false

greatest_by :
    (test : ℕ → Bool) (e r : ℕ) (b : Bool) → test (suc e) ≡ b → Greatest test e r → Greatest test (suc e) (cond b (suc e) r)
greatest_by test e r true t g =
    record { bound = le_refl _; passes = λ _. t; above = λ k h l. absurd (omega arith) }
greatest_by test e r false t g =
    record { bound = omega (arith, g.bound); passes = g.passes; above = λ k h l. go k h l (dec_le k e) }
  where
    go : (k : ℕ) → r < k → k ≤ suc e → Dec (k ≤ e) → test k ≡ false
    go k h l (yes p) = g.above k h p
    go k h l (no p) = let s : k ≡ suc e = omega (arith, lt_of_not-le p) in rw s t

pub greatest : (test : ℕ → Bool) (e : ℕ) → Greatest test e (greatest_to test e)
unfolding greatest_to
greatest test zero =
    record { bound = le_refl _; passes = λ h. absurd (omega arith); above = λ k h l. absurd (omega arith) }
greatest test (suc e) = greatest_by test e (greatest_to test e) (test (suc e)) refl (greatest test e)

-- what passes is at most the greatest
pub greatest_from : (test : ℕ → Bool) (m e : ℕ) → m ≤ e → test m ≡ true → m ≤ greatest_to test e
greatest_from test m e h q = go (dec_le m (greatest_to test e))
  where
    go : Dec (m ≤ greatest_to test e) → m ≤ greatest_to test e
    go (yes p) = p
    go (no p) = absurd (true≢false (sym q ∙ (greatest test e).above m (lt_of_not-le p) h))

pub greatest_found :
    (test : ℕ → Bool) (r e : ℕ) → r ≤ e → test r ≡ true → ((k : ℕ) → r < k → k ≤ e → test k ≡ false) → r ≡ greatest_to test e
greatest_found test r e h t f = go (dec_le (greatest_to test e) r)
  where
    go : Dec (greatest_to test e ≤ r) → r ≡ greatest_to test e
    go (yes p) = omega (arith, greatest_from test r e h t)
    go (no p) =
        let g = greatest test e in
        absurd (true≢false
        (sym (g.passes (omega (arith, lt_of_not-le p))) ∙ f (greatest_to test e) (lt_of_not-le p) g.bound))

pub greatest_here : (test : ℕ → Bool) (e : ℕ) → test e ≡ true → e ≡ greatest_to test e
greatest_here test e h = greatest_found test e e (le_refl _) h (λ k p q. absurd (omega arith))

-- tests that agree up to e have one greatest
pub greatest_same :
    (test other : ℕ → Bool) (e : ℕ) → ((k : ℕ) → k ≤ e → test k ≡ other k) → greatest_to test e ≡ greatest_to other e
unfolding greatest_to
greatest_same test other zero h = refl
greatest_same test other (suc e) h =
    rw (h (suc e) (le_refl _), greatest_same test other e (λ k l. h k (omega arith)))

-- the greatest share of a row, by its bracket
pub row_floor :
    (d n a share q m r : ℕ) → q ≡ n * n * (130 * d) ^ 5 → m ≡ units * a ^ 5 → GreatestShare q m 0 share r →
    r ≡ greatest_to (row_passes d n a) share
unfolding row_passes
row_floor d n a share q m r eq em g =
    let e = eq ∙ mul_comm (n * n) ((130 * d) ^ 5) in
    greatest_found _ r share (le_of_lt g.below)
    (le-leb _ _ (rw (e, em) at g.low))
    (λ k h l.
    lt-leb _ _
    (lt_of_lt_of_le (rw (e, em) at g.high) (mul-le-mul_right ((130 * d) ^ 5 * (n * n)) (power20 (omega arith)))))

-- the test in wide numbers is the row's test
pub row_tested :
    (d n a e q m : ℕ) → q ≡ n * n * (130 * d) ^ 5 → m ≡ units * a ^ 5 → leb ((e ^ 4) ^ 5 * q) m ≡ row_passes d n a e
unfolding row_passes
row_tested d n a e q m eq em = rw (eq ∙ mul_comm (n * n) ((130 * d) ^ 5), em)
