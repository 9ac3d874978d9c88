-- What version 2 asks more is edges alone.
use Prim.Native.Nat.{ℕ}
use mathlib.Core.Path.{◌≡◌, refl, sym, ap, ap₂, ◌∙◌, subst}
use mathlib.Core.Bool.{Bool, true, false, cond}
use lib.Dec.{eqb}
use mathlib.Core.List.{List, [], ◌∷◌}
use mathlib.Core.Logic.{inl, inr}
use native.Mathlib.Decide.{ℕ_discrete}
use native.Mathlib.Omega.{arith}
use borrow.Author.Tests.{ne_eqb}
use Rattle.tables.specs.declared.Source.{Source}
use Rattle.tables.specs.Tests as all_numbered
use Rattle.tables.specs.Tests.{first_holding}
use Rattle.tables.specs.Table.{Table, Loaded, Right, table_of}
use Rattle.tables.proofs.Loading.{right}
use Rattle.spacing.specs.Verdict.{Fault}
use Rattle.joint.specs.Answer.{Report}
use Rattle.joint.specs.Layout.{values_of}
use Rattle.joint.specs.Refusal.{refusal1, refusal2, refusal4, record_tests, refusal_number, drill_fault, refusal_of}
use Rattle.joint.specs.Returned.{answered, unanswered, report_of}
use Rattle.joint.specs.Claim.{Accepted}
use Rattle.joint.proofs.Holding.{no_number}
use Rattle.joint.proofs.Faults.{table_first, unrefused, number_of_record}
use Rattle.joint.proofs.Claims.{report_refused, claim}
use Rattle.laws.specs.Versions.{SameOr12, EdgesAlone, AcceptedAlike}
use Rattle.laws.proofs.Verdicts.{Alone, spacing_alone}
use Rattle.laws.proofs.Reports.{by_values, report_is}
use Rattle.laws.proofs.Bytes.{same1, same3, same4, offsets, same5, same6, same_part, same_values}

module _ (t : Table) (k : Right t) where
  -- ---- records of one number
  module _ (s u : List ℕ) where
    same_number : first_holding (record_tests t u) ≡ first_holding (record_tests t s) → refusal_number t u ≡ refusal_number t s
    same_number e = go (ℕ_discrete (first_holding t.tests) 0)
      where
        go : Dec (Loaded t) → refusal_number t u ≡ refusal_number t s
        go (yes l) = number_of_record t k l u ∙ e ∙ sym (number_of_record t k l s)
        go (no f) = table_first t u f ∙ sym (table_first t s f)

    same_refusal : refusal_number t u ≡ refusal_number t s → (refusal_number t s ≡ 0 → ⊥) → refusal_of t u ≡ refusal_of t s
    unfolding refusal_of
    same_refusal e f = simp (e, ne_eqb (refusal_number t s) 0 f)

    refused : refusal_of t u ≡ refusal_of t s → (Accepted t s → ⊥) → report_of t u ≡ report_of t s
    refused e f = sym (report_refused t u (λ a. f (sym (ap (λ (z : Fault). z.number) e) ∙ a))) ∙ ap unanswered e ∙ report_refused t s f

    -- an accepted record has no number
    number_zero : Accepted t s → refusal_number t s ≡ 0
    unfolding refusal_of
    number_zero a = go (ℕ_discrete (refusal_number t s) 0)
      where
        go : Dec (refusal_number t s ≡ 0) → refusal_number t s ≡ 0
        go (yes z) = z
        go (no g) = rw (ne_eqb (refusal_number t s) 0 g) at a

    numbered : refusal_number t u ≡ refusal_number t s → (refusal_number t s ≡ 0 → ⊥) → report_of t u ≡ report_of t s
    numbered e f = refused (same_refusal e f) (λ a. f (number_zero a))

  -- ---- a record of version 1, and the same in version 2
  module _ (r : List ℕ) where
    abbrev one : List ℕ
    one = 1 ∷ 0 ∷ r

    abbrev two : List ℕ
    two = 2 ∷ 0 ∷ r

    known : (refusal2 one ≡ false) × (refusal2 two ≡ false)
    unfolding refusal2
    known = (refl, refl)

    same_tests : (b : Bool) → refusal4 one ≡ b → first_holding (record_tests t two) ≡ first_holding (record_tests t one)
    unfolding first_holding
    same_tests true e = simp (same1 1 0 2 0 r, known.0, known.1, same3 1 0 2 0 r, same4 1 0 2 0 r, e)
    same_tests false e =
        let o = offsets 1 0 2 0 r e in
        simp (
          same1 1 0 2 0 r,
          known.0,
          known.1,
          same3 1 0 2 0 r,
          same4 1 0 2 0 r,
          same5 1 0 2 0 r o,
          same6 1 0 2 0 r o,
          same_values 1 0 2 0 r o t,
        )

    number_same : refusal_number t two ≡ refusal_number t one
    number_same = same_number one two (same_tests (refusal4 one) refl)

    -- read without refusal
    module _ (z : refusal_number t one ≡ 0) where
      chain_right : refusal4 one ≡ false
      unfolding all_numbered.numbered
      chain_right = (no_number (record_tests t one) refl (unrefused t k one z).1).none 3

      plans : Alone (drill_fault (values_of one)) (drill_fault (values_of two))
      unfolding drill_fault values_of
      plans =
          let o = offsets 1 0 2 0 r chain_right in
          simp (same_part 1 0 2 0 r o) (spacing_alone _ _ _ _ _ _ _ _)

      same_answer : answered t (values_of two) ≡ answered t (values_of one)
      unfolding answered values_of
      same_answer = let o = offsets 1 0 2 0 r chain_right in simp (same_part 1 0 2 0 r o)

      -- what the two reports are
      reports : (report_of t one ≡ by_values t (values_of one)) × (report_of t two ≡ by_values t (values_of two))
      reports =
          let u = unrefused t k one z in
          let w = unrefused t k two (number_same ∙ z) in
          (report_is t k u.0 one u.1, report_is t k w.0 two w.1)

      either : SameOr12 t one two
      unfolding unanswered
      either = of plans
        where
          of : Alone (drill_fault (values_of one)) (drill_fault (values_of two)) → SameOr12 t one two
          of (inl e) =
              inl
              (reports.1
              ∙ ap₂ (λ (f : Fault) (r : Report). cond (eqb f.number 0) r (unanswered f)) e same_answer
              ∙ sym reports.0)
          of (inr e) =
              let f = drill_fault (values_of two) in
              inr
              (ap (λ (r : Report). r.number) reports.1
              ∙ ap (λ (b : Bool). (cond b (answered t (values_of two)) (unanswered f)).number) (ap (λ (i : ℕ). eqb i 0) e)
              ∙ e)

    alone : SameOr12 t one two
    alone = go (ℕ_discrete (refusal_number t one) 0)
      where
        go : Dec (refusal_number t one ≡ 0) → SameOr12 t one two
        go (yes z) = either z
        go (no f) = inl (numbered one two number_same f)

  -- ---- every sequence of bytes
  -- fewer than 20 bytes are refused in each version
  lone : (a b : ℕ) → report_of t (b ∷ []) ≡ report_of t (a ∷ [])
  unfolding first_holding refusal1
  lone a b = numbered (a ∷ []) (b ∷ []) (same_number (a ∷ []) (b ∷ []) refl) (λ z. let e = (unrefused t k (a ∷ []) z).1 in omega (arith, e))

  pub edges_alone : (s : List ℕ) → EdgesAlone t s
  edges_alone [] v = absurd (omega (arith, v))
  edges_alone (a ∷ []) v = inl (lone a 2)
  edges_alone (a ∷ b ∷ r) v =
      let p : a ≡ 1 = omega (arith, v) in
      let q : b ≡ 0 = omega (arith, v) in
      let e : one r ≡ a ∷ b ∷ r = ap₂ (λ (i j : ℕ). i ∷ j ∷ r) (sym p) (sym q) in
      subst (λ (s : List ℕ). SameOr12 t s (two r)) e (alone r)

  pub accepted_alike : (s : List ℕ) → AcceptedAlike t s
  accepted_alike [] v h = absurd (omega (arith, v))
  accepted_alike (a ∷ []) v h = lone a 1
  accepted_alike (a ∷ b ∷ r) v h =
      let p : a ≡ 2 = omega (arith, v) in
      let q : b ≡ 0 = omega (arith, v) in
      let e : a ∷ b ∷ r ≡ two r = ap₂ (λ (i j : ℕ). i ∷ j ∷ r) p q in
      of (subst (Accepted t) e h) (alone r) ∙ ap (report_of t) (sym e)
    where
      of : Accepted t (two r) → SameOr12 t (one r) (two r) → report_of t (one r) ≡ report_of t (two r)
      of g (inl e) = sym e
      of g (inr e) = let n = (claim t k (two r)).number ∙ g in absurd (omega (arith, e, n))

-- by every table that a call can name
pub edges_alone_by : (source : Source) (s : List ℕ) → EdgesAlone (table_of source) s
edges_alone_by source = edges_alone (table_of source) (right source)

pub accepted_alike_by : (source : Source) (s : List ℕ) → AcceptedAlike (table_of source) s
accepted_alike_by source = accepted_alike (table_of source) (right source)
