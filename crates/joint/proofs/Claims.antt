-- The report that is made meets the top claim, for every sequence of bytes and every table that a call can name.
use Prim.Native.Nat.{ℕ, ◌≤◌, ◌<◌}
use mathlib.Core.Path.{◌≡◌, refl, sym, ap, ◌∙◌, subst⁻¹}
use mathlib.Core.Bool.{Bool, true, false, cond, not}
use mathlib.Core.List.{List}
use borrow.Author.Tests.{eq-eqb, ne_eqb, eqb-true, eqb-false, le-leb, lt-leb}
use native.Mathlib.Decide.{ℕ_discrete}
use lib.Dec.{eqb}
use Rattle.tables.specs.declared.Source.{Source}
use Rattle.tables.specs.Table.{Table, table_number, Loaded, own_table, shared_table, table_of, Right}
use Rattle.tables.proofs.Loading.{own_right, shared_right, right}
use Rattle.spacing.specs.Verdict.{Fault}
use Rattle.spacing.specs.Verdict.{fault}
use Rattle.std.specs.Prelude.{Ok, Err}
use Rattle.joint.specs.declared.Values.{Values}
use Rattle.joint.specs.declared.refusals.Rejection.{Rejection}
use Rattle.joint.specs.Answer.{Report, Outcome}
use Rattle.joint.specs.Answer.Verdict.{Fits, Overloaded}
use Rattle.joint.specs.Told.{fault_in, outcome_in}
use Rattle.joint.specs.Layout.{values_of}
use Rattle.joint.specs.Refusal.{refusal_of, refusal_number, drill_fault, fields_within, no_force, outcome_of, outcome, zero_values}
use Rattle.joint.specs.Claim.{Accepted, Judged, Reported}
use Rattle.joint.specs.Use.{verdict_of}
use Rattle.joint.specs.Returned.{answered, unanswered, report_of, Passed}
use Rattle.joint.proofs.Order.{unnumbered}
use Rattle.joint.proofs.Faults.{not_loaded, unrefused, given, outcome_accepted, rejected}
use Rattle.joint.proofs.Accepted.{fields_hold}
use Rattle.joint.proofs.Answers.{answers}

-- an accepted record passed refusals 1 to 9 and the drill plan
record Clear (t : Table) (s : List ℕ) : Type 0 where
  number : refusal_number t s ≡ 0
  drill : (drill_fault (values_of s)).number ≡ 0

clear : (t : Table) (s : List ℕ) → Accepted t s → Clear t s
unfolding refusal_of
clear t s h = go (eqb (refusal_number t s) 0) refl h
  where
    go :
        (b : Bool) → eqb (refusal_number t s) 0 ≡ b →
        (cond b (drill_fault (values_of s)) (fault (refusal_number t s) 0 0 0)).number ≡ 0 → Clear t s
    go true e k = record { number = eqb-true (refusal_number t s) 0 e; drill = k }
    go false e k = absurd (eqb-false (refusal_number t s) 0 e k)

-- so its fields are within their limits
pub accepted_fields : (t : Table) → Right t → (s : List ℕ) → Accepted t s → not (fields_within t (values_of s)) ≡ false
accepted_fields t r s h = ((unnumbered t s).0 (unrefused t r s (clear t s h).number).1).none 6

pub accepted_passed : (t : Table) → Right t → (s : List ℕ) → Accepted t s → Passed t (values_of s)
accepted_passed t r s h =
    let k = clear t s h in
    let u = unrefused t r s k.number in
    let seven = accepted_fields t r s h in
    let nine : no_force (values_of s).loads ≡ false = ((unnumbered t s).0 u.1).none 8 in
    record { sound = r.sound u.0; fields = fields_hold t (values_of s) seven; given = given t (values_of s) seven nine; drill = k.drill }

-- its refusal is 0 throughout
no_refusal_lem : (t : Table) (s : List ℕ) → Accepted t s → refusal_of t s ≡ fault 0 0 0 0
unfolding outcome_of outcome
no_refusal_lem t s h =
    let k = clear t s h in
    let o = sym (outcome_accepted t s (drill_fault (values_of s)) refl k.number k.drill) in
    λ i. record { number = (o i).number; member = (o i).member; first = (o i).first; second = (o i).second }

-- ---- which of the two reports is made
pub report_accepted : (t : Table) (s : List ℕ) → Accepted t s → answered t (values_of s) ≡ report_of t s
unfolding report_of
report_accepted t s h = rw (eq-eqb (refusal_of t s).number 0 h)

pub report_refused : (t : Table) (s : List ℕ) → (Accepted t s → ⊥) → unanswered (refusal_of t s) ≡ report_of t s
unfolding report_of
report_refused t s h = rw (ne_eqb (refusal_of t s).number 0 h)

-- by a table that did not load
pub report_not_loaded : (t : Table) (s : List ℕ) → (Loaded t → ⊥) → report_of t s ≡ unanswered (fault (table_number t) 0 0 0)
report_not_loaded t s f =
    let e = not_loaded t s f in
    sym (report_refused t s (λ a. f (sym (ap (λ (z : Fault). z.number) e) ∙ a))) ∙ ap unanswered e

pub claim : (t : Table) → Right t → (s : List ℕ) → Judged t s (report_of t s)
unfolding answered unanswered
claim t k s = go (ℕ_discrete (refusal_of t s).number 0)
  where
    go : Dec (Accepted t s) → Judged t s (report_of t s)
    go (yes h) =
        let z = no_refusal_lem t s h in
        rw (← (report_accepted t s h))
        (record {
          number = sym h;
          member = sym (ap (λ (f : Fault). f.member) z);
          first = sym (ap (λ (f : Fault). f.first) z);
          second = sym (ap (λ (f : Fault). f.second) z);
          refused = λ f. absurd (f h);
          accepted = λ _. answers t (values_of s) (accepted_passed t k s h);
        })
    go (no f) =
        rw (← (report_refused t s f))
        (record {
          number = refl;
          member = refl;
          first = refl;
          second = refl;
          refused = λ _. record { capacity = refl; share = refl; usage = refl; verdict = refl };
          accepted = λ h. absurd (f h);
        })

-- for every table that a call can name and every sequence of bytes handed in as record
pub claimed : (source : Source) (s : List ℕ) → Judged (table_of source) s (report_of (table_of source) s)
claimed source = claim (table_of source) (right source)

-- A4: 'for every sequence of bytes handed in as table'; A6: and for every number as the firm's
pub claimed_with : (b s : List ℕ) → Judged (own_table b) s (report_of (own_table b) s)
claimed_with b = claim (own_table b) (own_right b)

pub claimed_for : (firm : ℕ) (b s : List ℕ) → Judged (shared_table firm b) s (report_of (shared_table firm b) s)
claimed_for firm b = claim (shared_table firm b) (shared_right firm b)

pub judged : {t : Table} → Right t → {s : List ℕ} {r : Report} → r ≡ report_of t s → Reported t s r
judged {t} k {s} {r} e = record { claim = subst⁻¹ (Judged t s) e (claim t k s); is = e }

-- ---- the verdict
pub fits : (U : ℕ) → U ≤ 10000 → Fits ≡ verdict_of U
fits U h = simp (le-leb U 10000 h)

pub overloaded : (U : ℕ) → 10000 < U → Overloaded ≡ verdict_of U
overloaded U h = simp (lt-leb U 10000 h)

-- ---- by the outcome of the refusals
module _ (t : Table) (s : List ℕ) where
  pub accepted_outcome : (v : Values) → outcome_in (Ok v) ≡ outcome_of t s → Accepted t s × (v ≡ values_of s)
  unfolding outcome_of outcome
  accepted_outcome v e =
      let a : Accepted t s = sym (ap (λ (o : Outcome). o.number) e) in
      (a, ap (λ (o : Outcome). o.values) e ∙ ap (λ (b : Bool). cond b (values_of s) zero_values) (eq-eqb (refusal_of t s).number 0 a))

  pub refused_outcome : (r : Rejection) → outcome_in (Err r) ≡ outcome_of t s → unanswered (fault_in r) ≡ report_of t s
  unfolding outcome_of outcome
  refused_outcome r e =
      ap (λ (o : Outcome). unanswered (fault o.number o.member o.first o.second)) e
      ∙ report_refused t s (λ h. rejected r (ap (λ (o : Outcome). o.number) e ∙ h))
