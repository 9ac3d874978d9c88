-- How many bits the numbers behind a row's share have.
use mathlib.Core.Path.{◌≡◌, refl}
use mathlib.Core.List.{[], ◌∷◌}
use Prim.Native.Nat.{ℕ, ◌*◌, ◌^◌, ◌≤◌, ◌<◌}
use native.Mathlib.Nat.{mul-le-mul, lt_of_le_of_lt}
use native.Mathlib.Omega.{arith}
use lib.Dec.{lit<}
use Rattle.wide.specs.Natural.{value}
use Rattle.wide.proofs.Bits.{product_bits}
use Rattle.wide.proofs.Powers.{fifth_is}
use Rattle.group.specs.Share.{units}

-- 130 d and its powers
module _ {d : ℕ} (h : d ≤ 30) where
  unit : 130 * d ≤ 3900
  unit = omega arith

  unit2 : 130 * d * (130 * d) ≤ 15210000
  unit2 = mul-le-mul unit unit

  unit4 : 130 * d * (130 * d) * (130 * d * (130 * d)) ≤ 231344100000000
  unit4 = mul-le-mul unit2 unit2

  pub unit5 : 130 * d * (130 * d) * (130 * d * (130 * d)) * (130 * d) < 2 ^ 60
  unit5 = lt_of_le_of_lt (mul-le-mul unit4 unit) (lit< tt)

pub number2 : {n : ℕ} → n ≤ 64 → n * n < 2 ^ 13
number2 h = lt_of_le_of_lt (mul-le-mul h h) (lit< tt)

-- a distance and its powers
module _ {a : ℕ} (h : a ≤ 200000) where
  pub distance2 : a * a < 2 ^ 36
  distance2 = lt_of_le_of_lt (mul-le-mul h h) (lit< tt)

  pub distance3 : a * a * a < 2 ^ 53
  distance3 = lt_of_le_of_lt (mul-le-mul (mul-le-mul h h) h) (lit< tt)

  pub distance5 : a * a * a * (a * a) < 2 ^ 89
  distance5 = product_bits 53 36 distance3 distance2

pub fifth : (a : ℕ) → a * a * a * (a * a) ≡ a ^ 5
fifth a = rw (← (fifth_is a)) (omega arith)

-- 10,000^20 in limbs of 32 bits
pub units_are :
    value (0 ∷ 0 ∷ 3468754944 ∷ 1671571300 ∷ 4020508874 ∷ 3453057829 ∷ 1809837936 ∷ 2649374239 ∷ 863 ∷ []) ≡ units
unfolding value units
units_are = refl

pub units_bits : units < 2 ^ 266
unfolding units
units_bits = lit< tt
