-- Tables that are turned away alike and have the same classes give every record the same report and the same reading; so the printed table,
-- handed in as bytes in a firm's layout, gives what the call without a table gives (02, A4).
use Prim.Native.Nat.{ℕ}
use mathlib.Core.Path.{◌≡◌, sym, ap, ◌∙◌}
use mathlib.Core.List.{List, ◌++◌}
use native.Mathlib.Decide.{ℕ_discrete}
use Rattle.tables.specs.Tests.{Test, first_holding}
use Rattle.tables.specs.Table.{Table, Loaded, Right, Alike, printed, printed_bytes, printed_as_own}
use Rattle.tables.proofs.Loading.{own_right, printed_right}
use Rattle.tables.proofs.Same.{printed_alike}
use Rattle.joint.specs.declared.Members.{Members}
use Rattle.joint.specs.declared.Dowel.{Dowel}
use Rattle.joint.specs.declared.Values.{Values}
use Rattle.joint.specs.Layout.{values_of}
use Rattle.joint.specs.Refusal.{member_within, members_within, fields_within, value_tests, script_tests, record_tests}
use Rattle.joint.specs.Refusal.{refusal_number, refusal_of, reading_of}
use Rattle.joint.specs.DesignOf.{plane_in}
use Rattle.joint.specs.Returned.{answered, report_of}
use Rattle.joint.proofs.Holding.{first_zero, first_kept}

module _ (t u : Table) (p : Right t) (q : Right u) (alike : Alike t u) where
  same_fields : (v : Values) → fields_within t v ≡ fields_within u v
  unfolding fields_within members_within member_within
  same_fields v = simp alike.classes

  pub same_tests : (v : Values) → value_tests t v ≡ value_tests u v
  same_tests v = simp (same_fields v)

  -- the tables' tests before others that are the same
  pub first_same : (xs ys : List Test) → xs ≡ ys → first_holding (t.tests ++ xs) ≡ first_holding (u.tests ++ ys)
  first_same xs ys e = go (ℕ_discrete (first_holding t.tests) 0)
    where
      go : Dec (Loaded t) → first_holding (t.tests ++ xs) ≡ first_holding (u.tests ++ ys)
      go (yes l) =
          first_zero t.tests xs p.no_zero l
          ∙ ap first_holding e
          ∙ sym (first_zero u.tests ys q.no_zero (sym alike.number ∙ l))
      go (no f) = first_kept t.tests xs f ∙ alike.number ∙ sym (first_kept u.tests ys (λ l. f (alike.number ∙ l)))

  same_number : (s : List ℕ) → refusal_number t s ≡ refusal_number u s
  unfolding refusal_number
  same_number s =
      first_same (record_tests t s) (record_tests u s)
      (ap (λ (l : List Test). script_tests s ++ l) (same_tests (values_of s)))

  same_refusal : (s : List ℕ) → refusal_of t s ≡ refusal_of u s
  unfolding refusal_of
  same_refusal s = simp (same_number s)

  same_plane : (m : Members) (w : Dowel) (total c1 c2 : ℕ) → plane_in t m w total c1 c2 ≡ plane_in u m w total c1 c2
  unfolding plane_in
  same_plane m w total c1 c2 = simp alike.classes

  same_answer : (v : Values) → answered t v ≡ answered u v
  unfolding answered
  same_answer v = simp same_plane

  pub same_report : (s : List ℕ) → report_of t s ≡ report_of u s
  unfolding report_of
  same_report s = simp (same_refusal s, same_answer (values_of s))

  pub same_reading : (s : List ℕ) → reading_of t s ≡ reading_of u s
  unfolding reading_of
  same_reading s = simp (same_number s)

-- ---- the printed table as bytes
pub printed_report : (s : List ℕ) → report_of printed_as_own s ≡ report_of printed s
printed_report = same_report printed_as_own printed (own_right printed_bytes) printed_right printed_alike

pub printed_reading : (s : List ℕ) → reading_of printed_as_own s ≡ reading_of printed s
printed_reading = same_reading printed_as_own printed (own_right printed_bytes) printed_right printed_alike
