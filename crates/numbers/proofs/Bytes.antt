-- Laws of numbers written into bytes: runs of stores that follow one another, and that reading undoes writing.
use Prim.Native.Nat.{ℕ, suc, ◌+◌, ◌*◌, ◌/◌, ◌%◌, ◌≤◌, ◌<◌}
use native.Mathlib.Nat.{add-zero, suc-add, add-suc}
use native.Mathlib.Omega.{arith}
use borrow.Author.Tests.{leb-true}
use mathlib.Core.Bool.{true, and-eq-true_iff}
use mathlib.Core.List.{List, [], ◌∷◌, ◌++◌}
use mathlib.Core.Path.{◌≡◌, ap, ◌∙◌}
use lib.Dec.{leb}
use lib.IntN.{ℤ, pos, negsuc}
use lib.ListN.{length, set}
use lib.Seq.{sets, length-sets}
use lib.Signed.{mag}
use Rattle.numbers.specs.Numbers.{i32_bytes, complement_of, i32_at, between_z, coordinate, force}
use Rattle.numbers.proofs.Complement.{back}

-- ---- runs of stores
pub sets_append : (xs l ys : List ℕ) (i : ℕ) → sets (sets l i xs) (i + length xs) ys ≡ sets l i (xs ++ ys)
sets_append [] l ys i = rw add-zero
sets_append (x ∷ xs) l ys i =
    rw (add-suc i (length xs), ← suc-add i (length xs)) (sets_append xs (set l i x) ys (suc i))

pub sets_more : (l xs ys : List ℕ) (i k : ℕ) → length xs ≡ k → sets (sets l i xs) (i + k) ys ≡ sets l i (xs ++ ys)
sets_more l xs ys i k e = rw (← e) (sets_append xs l ys i)

-- `after` is `before` with a run stored in it, to which the next one is added
pub record Stored (before : List ℕ) (i : ℕ) (run after : List ℕ) : Type 0 where
  pub is : after ≡ sets before i run

pub first : (l : List ℕ) (i : ℕ) (xs : List ℕ) {m : List ℕ} → m ≡ sets l i xs → Stored l i xs m
first l i xs e = record { is = e }

pub next : {l xs m n : List ℕ} {i k : ℕ} → Stored l i xs m → (ys : List ℕ) → length xs ≡ k → n ≡ sets m (i + k) ys → Stored l i (xs ++ ys) n
next {l} {xs} {m} {n} {i} {k} s ys h e =
    record { is = e ∙ ap (λ (r : List ℕ). sets r (i + k) ys) s.is ∙ sets_more l xs ys i k h }

pub long : {l xs m : List ℕ} {i : ℕ} → Stored l i xs m → length m ≡ length l
long {l} {xs} {m} {i} s = ap length s.is ∙ length-sets l i xs

-- ---- reading undoes writing, over the bytes as they are read
pub u16_back : (n : ℕ) → n % 256 + n / 256 * 256 ≡ n
u16_back n = omega arith

pub u32_back : (n : ℕ) → n % 65536 % 256 + n % 65536 / 256 * 256 + (n / 65536 % 256 + n / 65536 / 256 * 256) * 65536 ≡ n
u32_back n = omega arith

pub i32_back : (z : ℤ) → mag z < 2147483648 → i32_at (i32_bytes z) 0 ≡ z
unfolding i32_at
i32_back z h = rw (u32_back (complement_of z)) (back z h)

-- ---- the numbers that fit
between_fits : (low high : ℕ) (z : ℤ) → between_z (negsuc low) (pos high) z ≡ true → low ≤ 1000000 → high ≤ 1000000 → mag z < 2147483648
between_fits low high (pos n) h l g = omega (arith, leb-true n high h)
between_fits low high (negsuc n) h l g = omega (arith, leb-true n low ((and-eq-true_iff (leb n low) _).0 h).0)

pub coordinate_fits : (z : ℤ) → coordinate z ≡ true → mag z < 2147483648
unfolding coordinate
coordinate_fits z h = between_fits 99999 100000 z h (omega arith) (omega arith)

pub force_fits : (z : ℤ) → force z ≡ true → mag z < 2147483648
unfolding force
force_fits z h = between_fits 999999 1000000 z h (omega arith) (omega arith)
