-- What the program reports, from what `judge` ensures.
use Prim.Native.Nat.{ℕ}
use mathlib.Core.Path.{◌≡◌, refl, ◌∙◌, ap, sym, subst}
use mathlib.Core.Bool.{Bool, true, false, cond, not, ◌||◌}
use mathlib.Core.List.{List, []}
use Rattle.arrayvec.specs.ArrayString.{ArrayString}
use lib.ListN.{take}
use lib.Dec.{eqb}
use Rattle.joint.specs.Answer.{Report}
use Rattle.joint.specs.Returned.{unanswered, report_of}
use Rattle.joint.proofs.Claims.{judged}
use Rattle.tables.proofs.Loading.{printed_right}
use Rattle.tables.specs.Table.{printed}
use Rattle.spacing.specs.Verdict.{fault}
use Rattle.std.specs.Prelude.{Some, None, is_some}
use Rattle.console.specs.Input.{Came, report_in, count_of, failed, unread, Bare, InputJudged, Said, line_when, Told, input_report, InputReported}

pub bare : (number : ℕ) (r : Report) → r ≡ unanswered (fault number 0 0 0) → Bare number r
unfolding unanswered
bare number r e =
    subst (λ (x : Report). Bare number x) (sym e)
    (record {
      numbered = refl;
      member = refl;
      first = refl;
      second = refl;
      figures = record { capacity = refl; share = refl; usage = refl; verdict = refl };
    })

-- a report of the program's rule is judged right
pub input_says : (buffer : List ℕ) (count : ℕ) (more : Bool) (r : Report) → r ≡ input_report buffer count more → InputJudged buffer count more r
unfolding input_report
input_says buffer count true r e = bare 4 r e
input_says buffer count false r e = (judged printed_right e).claim

-- which report is made, by whether more came
pub input_long : (buffer : List ℕ) (count : ℕ) (more : Bool) (r : Report) → more ≡ true → r ≡ unanswered (fault 4 0 0 0)
    → r ≡ input_report buffer count more
unfolding input_report
input_long buffer count more r m e = e ∙ ap (λ (b : Bool). cond b (unanswered (fault 4 0 0 0)) (report_of printed (take count buffer))) (sym m)

pub input_judged : (buffer : List ℕ) (count : ℕ) (more : Bool) (r : Report) → more ≡ false → r ≡ report_of printed (take count buffer)
    → r ≡ input_report buffer count more
unfolding input_report
input_judged buffer count more r m e = e ∙ ap (λ (b : Bool). cond b (unanswered (fault 4 0 0 0)) (report_of printed (take count buffer))) (sym m)

pub both : (buffer : List ℕ) (count : ℕ) (more : Bool) (r : Report) → r ≡ input_report buffer count more
    → InputReported buffer count more r
both buffer count more r e = record { claim = input_says buffer count more r e; is = e }

-- whether a read failed, as `is_none` says it
pub failed_is : (came : Came) (b : Bool) → is_some came ≡ not b → b ≡ failed came
failed_is (Some n) true h = cc h
failed_is (Some n) false h = refl
failed_is None true h = refl
failed_is None false h = cc h

-- whether a read failed, from what was asked of each
pub unread_is : (first second : Came) (a b t : Bool) → a ≡ failed first → b ≡ failed second → (a || b) ≡ t → unread first second ≡ t
unread_is first second a b t p q h = (λ i. sym p i || sym q i) ∙ h

-- nothing judged, and no line
pub not_told : (first second : Came) (buffer : List ℕ) (line : ArrayString) (count next : ℕ) → count ≡ count_of first
    → next ≡ count_of second → unread first second ≡ true → line.bytes ≡ []
    → Told first second buffer
    (record { first = first; second = second; count = count; more = not (eqb next 0); judgement = None; line = line })
not_told first second buffer line count next p q u e = record {
  asked = refl;
  asked_more = refl;
  count = p;
  more = ap (λ (n : ℕ). not (eqb n 0)) q;
  report = subst (λ (b : Bool). Said b buffer count (not (eqb next 0)) (report_in None)) (sym u) (bare 0 (report_in None) refl);
  line = e ∙ ap (λ (b : Bool). line_when b (report_in None)) (sym u);
}
