-- The two orders of the 27 numbers undo each other.
use Prim.Native.Nat.{ℕ, zero, suc, ◌+◌, ◌≤◌}
use mathlib.Core.Path.{◌≡◌, refl, sym, ap, ◌∙◌}
use mathlib.Core.List.{List, [], ◌∷◌, ◌++◌}
use native.Mathlib.Omega.{arith}
use lib.ListN.{length, take, drop}
use lib.IntN.{ℤ, pos}
use lib.Seq.{drop-cons}
use Rattle.writer.specs.declared.Fields.{Fields}
use Rattle.lent.specs.Numbers.{number_at, fields_in, numbers_of}

pub fields_of_numbers : (f : Fields) (rest : List ℤ) → fields_in (numbers_of f ++ rest) ≡ f
unfolding fields_in numbers_of
fields_of_numbers f rest = refl

-- n numbers from number k on
abbrev run : List ℤ → ℕ → ℕ → List ℤ
run l k zero = []
run l k (suc n) = number_at l k ∷ run l (suc k) n

run_take : (l : List ℤ) (k n : ℕ) → k + n ≤ length l → run l k n ≡ take n (drop k l)
run_take l k zero h = refl
run_take l k (suc n) h =
    ap (λ (r : List ℤ). number_at l k ∷ r) (run_take l (suc k) n (omega arith))
    ∙ sym (ap (take (suc n)) (drop-cons l k (pos 0) (omega arith)))

pub numbers_of_fields : (l : List ℤ) → 27 ≤ length l → numbers_of (fields_in l) ≡ take 27 l
unfolding fields_in numbers_of
numbers_of_fields l h = run_take l 0 27 h
