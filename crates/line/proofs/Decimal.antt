-- The digits that the kit writes of a number are those of the definition.
use Rattle.std.proofs.Common.{ℕ, zero, suc, ◌+◌, ◌/◌, ◌%◌, ◌^◌, ◌≤◌, ◌<◌, ◌≡◌, List, [], ◌∷◌, ◌++◌, arith, ap, refl, sym}
use borrow.Author.Tests.{lt-ltb, le-ltb}
use Rattle.std.proofs.Math.Nat.{mod-eq_of_lt}
use Rattle.std.specs.Fmt.{decimal}
use Rattle.std.proofs.lemmas.Fmt.{decimal_from_appends, length-decimal-le}
use Rattle.line.specs.Line.{decimal_from, decimal_of}

-- at most k digits
digits_to : ℕ → ℕ → List ℕ
digits_to zero n = []
digits_to (suc k) n = decimal_from k n

one : (k n : ℕ) → n < 10 → digits_to (suc k) n ≡ (48 + n) ∷ []
unfolding digits_to decimal_from
one zero n h = ap (λ d. (48 + d) ∷ []) (mod-eq_of_lt h)
one (suc k) n h = simp (lt-ltb n 10 h) (ap (λ d. (48 + d) ∷ []) (mod-eq_of_lt h))

more : (k n : ℕ) → 10 ≤ n → digits_to (suc k) n ≡ digits_to k (n / 10) ++ ((48 + n % 10) ∷ [])
unfolding digits_to decimal_from
more zero n h = refl
more (suc k) n h = simp (le-ltb n 10 h)

pub decimal_is : (n : ℕ) → n < 2 ^ 64 → decimal n ≡ decimal_of n
unfolding digits_to
decimal_is n small =
    sym (decimal_from_appends digits_to (record { one = one; more = more }) 20 n small (length-decimal-le 20 n (omega arith) (omega arith) small))
