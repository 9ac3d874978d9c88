-- Places on a line: order and distance of signed numbers as comparisons of whole numbers, which `omega` reads.
use Prim.Native.Nat.{ℕ, zero, suc, ◌+◌, ◌-◌, ◌≤◌, ◌<◌}
use mathlib.Core.Path.{◌≡◌, refl, sym, ◌∙◌}
use mathlib.Core.Bool.{Bool, true, false, cond, and-eq-true_iff}
use mathlib.Core.Logic.{◌⊎◌, inl, inr}
use native.Mathlib.Nat.{lt_of_not-le}
use native.Mathlib.Decide.{dec_le}
use native.Mathlib.Omega.{arith}
use lib.Dec.{leb, ltb}
use lib.IntN.{ℤ, pos, negsuc, nat_abs, sub_ℕ, ◌-ℤ◌}
use lib.Signed.{le_z}
use borrow.Author.Tests.{le-leb, lt-leb, leb-true, ltb-true, ltb-false, lt-ltb}
use Rattle.group.specs.Share.{within_reach}

-- a number is `up` less `down`
abbrev pub up : ℤ → ℕ
up (pos n) = n
up (negsuc n) = 0

abbrev pub down : ℤ → ℕ
down (pos n) = 0
down (negsuc n) = suc n

abbrev pub gap : ℕ → ℕ → ℕ
gap m n = (m - n) + (n - m)

same_test : (x y x' y' : ℕ) → (x ≤ y → x' ≤ y') → (x' ≤ y' → x ≤ y) → leb x y ≡ leb x' y'
same_test x y x' y' f g = go (dec_le x y)
  where
    go : Dec (x ≤ y) → leb x y ≡ leb x' y'
    go (yes p) = rw (le-leb x y p, le-leb x' y' (f p))
    go (no p) = rw (lt-leb x y (lt_of_not-le p), lt-leb x' y' (lt_of_not-le (λ q. p (g q))))

pub le_is : (p q : ℤ) → le_z p q ≡ leb (up p + down q) (up q + down p)
le_is (pos a) (pos b) = same_test a b (a + 0) (b + 0) (λ h. omega arith) (λ h. omega arith)
le_is (pos a) (negsuc b) = sym (lt-leb (a + suc b) (0 + 0) (omega arith))
le_is (negsuc a) (pos b) = sym (le-leb (0 + 0) (b + suc a) (omega arith))
le_is (negsuc a) (negsuc b) = same_test b a (0 + suc b) (0 + suc a) (λ h. omega arith) (λ h. omega arith)

sub_size : (a b : ℕ) → nat_abs (sub_ℕ a b) ≡ gap a b
sub_size a b = go (ltb a b) refl
  where
    go : (t : Bool) → ltb a b ≡ t → nat_abs (cond t (negsuc (b - suc a)) (pos (a - b))) ≡ gap a b
    go true e = let l = ltb-true a b e in omega (arith, l)
    go false e = let l = ltb-false a b e in omega (arith, l)

pub distance_is : (p q : ℤ) → nat_abs (p -ℤ q) ≡ gap (up p + down q) (up q + down p)
distance_is (pos a) (pos zero) = omega arith
distance_is (pos a) (pos (suc b)) = sub_size a (suc b) ∙ omega arith
distance_is (pos a) (negsuc b) = omega arith
distance_is (negsuc a) (pos zero) = sub_size 0 (suc a) ∙ omega arith
distance_is (negsuc a) (pos (suc b)) = omega arith
distance_is (negsuc a) (negsuc b) = sub_size (suc b) (suc a) ∙ omega arith

-- ---- order
pub opened : (p q : ℤ) → le_z p q ≡ true → up p + down q ≤ up q + down p
opened p q h = leb-true _ _ (sym (le_is p q) ∙ h)

pub closed : (p q : ℤ) → up p + down q ≤ up q + down p → le_z p q ≡ true
closed p q h = le_is p q ∙ le-leb _ _ h

pub le_z_self : (p : ℤ) → le_z p p ≡ true
le_z_self p = closed p p (omega arith)

pub le_z_trans : (p q r : ℤ) → le_z p q ≡ true → le_z q r ≡ true → le_z p r ≡ true
le_z_trans p q r h k = closed p r (omega (arith, opened p q h, opened q r k))

pub le_z_total : (p q : ℤ) → (le_z p q ≡ true) ⊎ (le_z q p ≡ true)
le_z_total p q = go (dec_le (up p + down q) (up q + down p))
  where
    go : Dec (up p + down q ≤ up q + down p) → (le_z p q ≡ true) ⊎ (le_z q p ≡ true)
    go (yes h) = inl (closed p q h)
    go (no h) = inr (closed q p (omega (arith, lt_of_not-le h)))

-- ---- distance
-- the farther of two on one side is farther
pub farther : (p q r : ℤ) → le_z p q ≡ true → le_z q r ≡ true → nat_abs (r -ℤ q) ≤ nat_abs (r -ℤ p)
farther p q r h k = rw (distance_is r q, distance_is r p) (omega (arith, opened p q h, opened q r k))

-- what lies in the window from a place is not below it and nearer to it than `reach`
window_true : (p q : ℤ) (reach : ℕ) → within_reach p q reach ≡ true → (le_z p q ≡ true) × (nat_abs (q -ℤ p) < reach)
window_true p q reach h =
    let s = (and-eq-true_iff (le_z p q) _).0 h in (s.0, omega (arith, ltb-true (nat_abs (q -ℤ p)) _ s.1))

-- and the other way round
pub in_reach : (p q : ℤ) (reach : ℕ) → le_z p q ≡ true → nat_abs (p -ℤ q) < reach → within_reach p q reach ≡ true
in_reach p q reach h k =
    let l : nat_abs (q -ℤ p) < reach = rw (distance_is q p) (omega (arith, (rw (distance_is p q) at k))) in
    rw (h, lt-ltb _ _ l)

-- two of a window are nearer to each other than `reach`
pub window_near :
    (from p q : ℤ) (reach : ℕ) → within_reach from p reach ≡ true → within_reach from q reach ≡ true → nat_abs (p -ℤ q) < reach
window_near from p q reach h k =
    let s = window_true from p reach h in
    let t = window_true from q reach k in
    let x = rw (distance_is p from) at s.1 in
    let y = rw (distance_is q from) at t.1 in
    rw (distance_is p q) (omega (arith, opened from p s.0, opened from q t.0, x, y))
