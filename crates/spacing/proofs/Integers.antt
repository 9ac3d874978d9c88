-- Sizes, signs and distances of signed numbers, and how they are read.
use mathlib.Core.Path.{◌≡◌, refl, sym, ap, ◌∙◌}
use mathlib.Core.Bool.{Bool, true, false}
use Prim.Native.Nat.{ℕ, zero, suc, ◌≤◌}
use native.Mathlib.Omega.{arith}
use borrow.Author.Differences.{ints}
use borrow.Author.Tests.{lt-leb, le-leb}
use lib.IntN.{ℤ, pos, negsuc, neg_ℤ, nat_abs, ◌+ℤ◌, ◌-ℤ◌, neg_ℤ-+ℤ, neg_ℤ-neg_ℤ, +ℤ_comm, +ℤ_idl, +ℤ_invr, -ℤ-+ℤ_cancel}
use lib.Signed.{mag, le_z, lt_z}
use mir.Syntax.{w32}
use mir.Val.{SFits, to_z, of_z}
use mir.Facts.{to_z-of_z}

mag_nat_abs : (z : ℤ) → mag z ≤ nat_abs z
mag_nat_abs (pos n) = omega arith
mag_nat_abs (negsuc n) = omega arith

pub nat_abs_neg : (z : ℤ) → nat_abs (neg_ℤ z) ≡ nat_abs z
nat_abs_neg (pos zero) = refl
nat_abs_neg (pos (suc n)) = refl
nat_abs_neg (negsuc n) = refl

-- a - b is what b - a is with the other sign
pub turned : (a b : ℤ) → b -ℤ a ≡ neg_ℤ (a -ℤ b)
turned a b = sym (neg_ℤ-+ℤ a (neg_ℤ b) ∙ ap (λ z. neg_ℤ a +ℤ z) (neg_ℤ-neg_ℤ b) ∙ +ℤ_comm (neg_ℤ a) b)

pub distance_turned : (a b : ℤ) → nat_abs (b -ℤ a) ≡ nat_abs (a -ℤ b)
distance_turned a b = ap nat_abs (turned a b) ∙ nat_abs_neg (a -ℤ b)

-- a component within the record's limits is a 32-bit number
pub small_fits : (z : ℤ) → nat_abs z ≤ 1000000 → SFits w32 z
small_fits z h = record { sfits = omega (arith, mag_nat_abs z) }

-- and reads as it was
pub small_read : (z : ℤ) → nat_abs z ≤ 1000000 → to_z w32 (of_z w32 z) ≡ z
small_read z h = to_z-of_z (small_fits z h)

-- ---- two places at no distance are one
none_is_zero : (z : ℤ) → nat_abs z ≡ 0 → z ≡ pos 0
none_is_zero (pos n) h = ap pos h
none_is_zero (negsuc n) h = absurd (omega arith)

pub same_place : (p q : ℤ) → nat_abs (p -ℤ q) ≡ 0 → p ≡ q
same_place p q h = sym (-ℤ-+ℤ_cancel p q) ∙ ap (λ z. z +ℤ q) (none_is_zero (p -ℤ q) h) ∙ +ℤ_idl q

pub no_distance : (p : ℤ) → nat_abs (p -ℤ p) ≡ 0
no_distance p = ap nat_abs (+ℤ_invr p)

-- ---- at least r above `low` is at or above r more than it, and at least r below `high` at or below r less
pub inwards : (r : ℕ) (low z : ℤ) → le_z (pos r) (z -ℤ low) ≡ le_z (low +ℤ pos r) z
inwards r low z = of (le_z (pos r) (z -ℤ low)) refl
  where
    of : (b : Bool) → le_z (pos r) (z -ℤ low) ≡ b → b ≡ le_z (low +ℤ pos r) z
    of true e = omega (arith, ints, e)
    of false e = omega (arith, ints, e)

pub outwards : (r : ℕ) (z high : ℤ) → le_z (pos r) (high -ℤ z) ≡ le_z z (high -ℤ pos r)
outwards r z high = of (le_z (pos r) (high -ℤ z)) refl
  where
    of : (b : Bool) → le_z (pos r) (high -ℤ z) ≡ b → b ≡ le_z z (high -ℤ pos r)
    of true e = omega (arith, ints, e)
    of false e = omega (arith, ints, e)

-- ---- a component above or below 0 is one of at least 1
pub above_zero : (z : ℤ) → lt_z (pos 0) z ≡ le_z (pos 1) z
above_zero (pos zero) = refl
above_zero (pos (suc n)) = refl
above_zero (negsuc n) = refl

pub below_zero : (z : ℤ) → lt_z z (pos 0) ≡ le_z (pos 1) (neg_ℤ z)
below_zero (pos zero) = refl
below_zero (pos (suc n)) = lt-leb (suc (suc n)) 0 (omega arith)
below_zero (negsuc n) = sym (le-leb 1 (suc n) (omega arith))
