-- What a report says of an accepted record, whichever report the claim allows.
use Prim.Native.Nat.{ℕ, ◌≤◌, ◌<◌}
use mathlib.Core.Path.{◌≡◌, refl, sym, ap, ◌∙◌}
use mathlib.Core.Bool.{Bool, true, false, cond}
use mathlib.Core.List.{List}
use native.Mathlib.Omega.{arith}
use lib.Dec.{leb}
use borrow.Author.Tests.{leb-true, leb-false}
use Rattle.tables.specs.Table.{Table, Right}
use Rattle.joint.specs.Answer.{Report}
use Rattle.joint.specs.Answer.{Verdict}
use Rattle.joint.specs.Answer.Verdict.{Fits, Overloaded, Refused}
use Rattle.joint.specs.Layout.{values_of}
use Rattle.joint.specs.DesignOf.{design_of}
use Rattle.joint.specs.Use.{verdict_of, Means}
use Rattle.joint.specs.Claim.{Judged, Accepted}
use Rattle.joint.specs.Returned.{demand_of}
use Rattle.joint.proofs.EnoughLaws.{enough_up, some_not, fits_enough, overloaded_not}
use Rattle.joint.proofs.Answers.{above, within, sound}
use Rattle.joint.proofs.Claims.{accepted_passed}

-- ---- which use gives which verdict
abbrev place : Verdict → ℕ
place Fits = 0
place Overloaded = 1
place Refused = 2

pub no_refusal_lem : (U : ℕ) → verdict_of U ≡ Refused → ⊥
no_refusal_lem U = go (leb U 10000)
  where
    go : (b : Bool) → cond b Fits Overloaded ≡ Refused → ⊥
    go true e = omega (arith, ap place e)
    go false e = omega (arith, ap place e)

of_fits : (U : ℕ) → verdict_of U ≡ Fits → U ≤ 10000
of_fits U = go (leb U 10000) refl
  where
    go : (b : Bool) → leb U 10000 ≡ b → cond b Fits Overloaded ≡ Fits → U ≤ 10000
    go true h e = leb-true U 10000 h
    go false h e = absurd (omega (arith, ap place e))

of_overloaded : (U : ℕ) → verdict_of U ≡ Overloaded → 10000 < U
of_overloaded U = go (leb U 10000) refl
  where
    go : (b : Bool) → leb U 10000 ≡ b → cond b Fits Overloaded ≡ Overloaded → 10000 < U
    go true h e = absurd (omega (arith, ap place e))
    go false h e = leb-false U 10000 h

-- ---- the theorem
pub means : (t : Table) → Right t → (s : List ℕ) → Accepted t s → (r : Report) → Judged t s r → Means (design_of t (values_of s)) r
means t k s a r j =
    let v = values_of s in
    let p = accepted_passed t k s a in
    let b = j.accepted a in
    record {
      upward = enough_up (design_of t v) (sound t v p);
      some = b.usage.enough;
      not_all = some_not (design_of t v) (sound t v p) (demand_of t v).capacity (above t v p) (within t v p).total_low;
      fits = λ e. fits_enough (design_of t v) (sound t v p) r.usage b.usage (of_fits r.usage (sym b.verdict ∙ e));
      overloaded = λ e.
          overloaded_not (design_of t v) (sound t v p) r.usage b.usage (of_overloaded r.usage (sym b.verdict ∙ e));
    }
