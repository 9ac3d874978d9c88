-- The entries for C that judge answer a joint drawn otherwise alike.
use Prim.Native.Nat.{ℕ, zero, suc}
use mathlib.Core.Path.{◌≡◌, refl, sym, ap, ◌∙◌}
use mathlib.Core.Bool.{Bool, true, false}
use mathlib.Core.List.{List}
use lib.ListN.{get_or}
use Rattle.tables.specs.Table.{Table, Right, printed, own_table, shared_table}
use Rattle.tables.proofs.Loading.{printed_right, own_right, shared_right}
use Rattle.joint.specs.Answer.{Report}
use Rattle.lent.specs.Lent.{put}
use Rattle.negwishal.specs.Export.{verdict_code, filled, judge_short}
use Rattle.laws.specs.Drawn.{SameAnswer}
use Rattle.laws.specs.Entries.{SameButDowels, JudgedAlike, JudgedEqual}
use Rattle.laws.proofs.Drawn.{reports_alike, reports_equal}

put_alike : (short : Bool) (entry : List ℕ) (f g : Report) → SameAnswer f g → SameButDowels (put short (filled f) entry) (put short (filled g) entry)
put_alike true entry f g e = record { long = refl; at = λ i _ _. refl }
put_alike false entry f g e = record { long = refl; at = at }
  where
    at : (i : ℕ) → (i ≡ 3 → ⊥) → (i ≡ 4 → ⊥) → get_or (put false (filled g) entry) i 0 ≡ get_or (put false (filled f) entry) i 0
    at zero _ _ = ap verdict_code e.verdict
    at (suc zero) _ _ = e.number
    at (suc (suc zero)) _ _ = e.member
    at (suc (suc (suc zero))) three _ = absurd (three refl)
    at (suc (suc (suc (suc zero)))) _ four = absurd (four refl)
    at (suc (suc (suc (suc (suc zero))))) _ _ = e.usage
    at (suc (suc (suc (suc (suc (suc zero)))))) _ _ = e.capacity
    at (suc (suc (suc (suc (suc (suc (suc zero))))))) _ _ = e.share
    at (suc (suc (suc (suc (suc (suc (suc (suc i)))))))) _ _ = refl

-- what they answer to a joint drawn otherwise, and to records of equal values
abbrev pub Judged : Table → List ℕ → List ℕ → Type 0
Judged t s u = JudgedAlike t s u × JudgedEqual t s u

pub judged : (t : Table) → Right t → (s u : List ℕ) → Judged t s u
judged t k s u = (
  λ p d entry a b r q e f. (
    f.code ∙ sym e.code,
    rw (e.out, f.out) (put_alike (judge_short entry) entry _ _ (reports_alike t k s u p d)),
  ),
  λ p p' v entry a b r q e f. (
    f.code ∙ sym e.code,
    f.out ∙ ap (λ (z : Report). put (judge_short entry) (filled z) entry) (reports_equal t k s u p p' v) ∙ sym e.out,
  ),
)

-- by the printed table, by every sequence of bytes as a firm's own, and by every number as the firm's with every sequence of bytes as the shared one
pub judged_printed : (s u : List ℕ) → Judged printed s u
judged_printed = judged printed printed_right

pub judged_with : (b s u : List ℕ) → Judged (own_table b) s u
judged_with b = judged (own_table b) (own_right b)

pub judged_for : (firm : ℕ) (b s u : List ℕ) → Judged (shared_table firm b) s u
judged_for firm b = judged (shared_table firm b) (shared_right firm b)
