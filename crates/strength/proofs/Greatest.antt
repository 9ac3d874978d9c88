-- The whole roots by definition are the whole roots.
use Rattle.std.proofs.Common.{◌≡◌, ℕ, zero, suc, ◌+◌, ◌*◌, ◌^◌, ◌<◌, Bool, true, false, cond, leb, sym, refl, ap, ◌∙◌, lt_of_mul-lt-mul_right, arith, le-leb, leb-false, leb-true}
use borrow.Author.Tests.{lt-leb}
use Rattle.strength.specs.Roots.{SquareRoot, FifthRoot}
use Rattle.strength.specs.Working.{greatest, square_root_of, fifth_root_of}
use Rattle.wide.proofs.Powers.{one_root, square_lt, pow_lt_back}

-- the last place where a test passes, below one where it fails
pub record Last (test : ℕ → Bool) (r : ℕ) : Type 0 where
  pub passes : test r ≡ true
  pub fails : test (r + 1) ≡ false

-- one step of the search: the test at r + 2^k says which half is left
step :
    (k : ℕ) (test : ℕ → Bool) (r : ℕ) (b : Bool)
    → test (r + 2 ^ k) ≡ b
    → (test (r + 2 ^ k) ≡ true → Last test (greatest k test (r + 2 ^ k)))
    → (test (r + 2 ^ k) ≡ false → Last test (greatest k test r))
    → Last test (greatest k test (cond b (r + 2 ^ k) r))
step k test r true e upper lower = upper e
step k test r false e upper lower = lower e

twice : (k r : ℕ) → r + 2 ^ suc k ≡ r + 2 ^ k + 2 ^ k
twice k r = omega arith

pub greatest_last :
    (k : ℕ) (test : ℕ → Bool) (r : ℕ) → test r ≡ true → test (r + 2 ^ k) ≡ false → Last test (greatest k test r)
unfolding greatest
greatest_last zero test r low high = record { passes = low; fails = high }
greatest_last (suc k) test r low high =
    step k test r (test (r + 2 ^ k)) refl
    (λ e. greatest_last k test (r + 2 ^ k) e (ap test (sym (twice k r)) ∙ high))
    (λ e. greatest_last k test r low e)

-- the whole square root by definition is the whole square root
pub square_root_of_lem : (n : ℕ) → n < 2 ^ 64 → SquareRoot n (square_root_of n)
unfolding square_root_of
square_root_of_lem n h =
    let l : Last (λ (r : ℕ). leb (r * r) n) (greatest 32 (λ (r : ℕ). leb (r * r) n) 0) =
    greatest_last 32 (λ (r : ℕ). leb (r * r) n) 0 (le-leb 0 n (omega arith)) (lt-leb (2 ^ 64) n h) in
    record { low = leb-true _ _ l.passes; high = leb-false _ _ l.fails }

pub square_root_is : (n r : ℕ) → n < 2 ^ 64 → SquareRoot n r → r ≡ square_root_of n
square_root_is n r h root =
    let s : SquareRoot n (square_root_of n) = square_root_of_lem n h in
    one_root (λ (z : ℕ). z * z) square_lt n r (square_root_of n) root.low root.high s.low s.high

-- the whole fifth root of a ratio by definition is the whole fifth root
pub fifth_root_of_lem : (n q : ℕ) → n < (2 ^ 64) ^ 5 * q → FifthRoot n q (fifth_root_of n q)
unfolding fifth_root_of
fifth_root_of_lem n q h =
    let l : Last (λ (r : ℕ). leb (r ^ 5 * q) n) (greatest 64 (λ (r : ℕ). leb (r ^ 5 * q) n) 0) =
    greatest_last 64 (λ (r : ℕ). leb (r ^ 5 * q) n) 0
    (le-leb (0 * q) n (omega arith))
    (lt-leb ((2 ^ 64) ^ 5 * q) n h) in
    record { low = leb-true _ _ l.passes; high = leb-false _ _ l.fails }

fifth_order : (q a b : ℕ) → a ^ 5 * q < b ^ 5 * q → a < b
fifth_order q a b h = pow_lt_back a b 5 (lt_of_mul-lt-mul_right q h)

pub fifth_root_is : (n q r : ℕ) → n < (2 ^ 64) ^ 5 * q → FifthRoot n q r → r ≡ fifth_root_of n q
fifth_root_is n q r h root =
    let s : FifthRoot n q (fifth_root_of n q) = fifth_root_of_lem n q h in
    one_root (λ (z : ℕ). z ^ 5 * q) (fifth_order q) n r (fifth_root_of n q) root.low root.high s.low s.high
