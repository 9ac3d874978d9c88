-- What a branch's test, an answer that may be lacking, or the exit of a `?` says.
use mathlib.Core.Path.{◌≡◌, refl, sym, ap, ◌∙◌}
use mathlib.Core.Bool.{Bool, true, false, cond}
use Rattle.std.specs.Prelude.{Result, Option, Some, None, Err, IsErrAnd, ok_or}
use Rattle.std.proofs.lemmas.Result.{err_from_is_err_and}
use Prim.Native.Nat.{ℕ, ◌<◌}
use borrow.Author.Tests.{eq-eqb, ne_eqb}
use lib.Dec.{eqb}
use lib.IntN.{ℤ}
use lib.Signed.{mag}
use mir.Facts.{to_z-of_z}
use mir.Syntax.{w32}
use mir.Val.{of_z, to_z}

-- a signed number is read back from its bits
pub from_bits : {r z : ℤ} → r ≡ z → mag r < 2147483648 → to_z w32 (of_z w32 r) ≡ z
from_bits e h = to_z-of_z {w = w32} (record { sfits = h }) ∙ e

-- a call's number that a branch compared
pub equal : {r t n : ℕ} → r ≡ t → r ≡ n → eqb t n ≡ true
equal e h = eq-eqb _ _ (sym e ∙ h)

pub unequal : {r t n : ℕ} → r ≡ t → (r ≡ n → ⊥) → eqb t n ≡ false
unequal e h = ne_eqb _ _ (λ q. h (e ∙ q))

-- what an answer that is there where a test holds says of the test
pub lacking : {A : Type 0} {b : Bool} (x : A) → None ≡ cond b (Some x) None → b ≡ false
lacking {b = true} x h = cc h
lacking {b = false} x h = refl

pub having : {A : Type 0} {b : Bool} {x y : A} → Some y ≡ cond b (Some x) None → (b ≡ true) × (y ≡ x)
having {b = true} h = (refl, cc)
having {b = false} h = cc h

-- what the exit of a `?` returns, where an error is handed on as another
pub handed_on : {A E : Type 0} {e : E} (r : Result A E) → IsErrAnd r (λ y. y ≡ e) → r ≡ Err e
handed_on r h = let p = err_from_is_err_and r h in p.1 ∙ ap Err p.2

-- what `ok_or` says of the answer that it was given
pub lacked : {A E : Type 0} {o t : Option A} {d e : E} → Err e ≡ ok_or o d → o ≡ t → (None ≡ t) × (e ≡ d)
lacked {o = None} h k = (k, cc)
lacked {o = Some x} h k = cc h
