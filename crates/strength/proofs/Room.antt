-- A number fits an array of limbs where it has no more bits than the array; and what a division answers.
use Rattle.std.proofs.Common.{◌≡◌, ℕ, ◌*◌, ◌/◌, ◌^◌, ◌<◌, T, leb, List, length, sym, arith, leb→le}
use native.Mathlib.Nat.{div-eq_of_lt-le}
use Rattle.wide.specs.Natural.{weight, Divided}
use Rattle.wide.proofs.Bits.{fits_limbs}

-- x fits an array of n limbs
pub again : (l : List ℕ) (n k : ℕ) {x : ℕ} → length l ≡ n → x < 2 ^ k → T (leb k (32 * n)) → x < weight l
again l n k e h t = fits_limbs k l h (rw e (leb→le k (32 * n) t))

-- the quotient of a division with a rest
pub divided_is : {a b q rest : ℕ} → Divided a b q rest → q ≡ a / b
divided_is {a} {b} {q} d = sym (div-eq_of_lt-le b (omega (arith, d.whole)) (omega (arith, d.whole, d.less)))
