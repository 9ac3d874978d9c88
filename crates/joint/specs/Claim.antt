-- The top claim: what a report says of the bytes handed in, read by a table of classes (01, 'Rows, share and use', last paragraph; demands 1, 2
-- and 3). One claim, for the printed table, for every sequence of bytes that is handed in as a firm's own (02, A4), and for every number as the
-- firm's with every sequence of bytes as the table that firms share (A6).
use Rattle.std.specs.Prelude.{ℕ, ◌≡◌, List}
use Rattle.joint.specs.Answer.Verdict.{Refused}
use Rattle.joint.specs.Answer.{Report}
use Rattle.tables.specs.Table.{Table}
use Rattle.joint.specs.Layout.{values_of}
use Rattle.joint.specs.Refusal.{refusal_of}
use Rattle.joint.specs.DesignOf.{design_of}
use Rattle.joint.specs.Use.{Answered}
use Rattle.joint.specs.Returned.{report_of}

-- 'A record is accepted where none of the refusals listed for judging it applies': decided from the bytes
abbrev pub Accepted : Table → List ℕ → Type 0
Accepted t bytes = (refusal_of t bytes).number ≡ 0

-- 'The report's figures are 0 on any refusal.'
pub record Unanswered (r : Report) : Type 0 where
  pub capacity : r.capacity ≡ 0
  pub share : r.share ≡ 0
  pub usage : r.usage ≡ 0
  pub verdict : r.verdict ≡ Refused

-- for every sequence of bytes the refusal's number and place; figures 0 on any refusal; figures in their brackets on acceptance
pub record Judged (t : Table) (bytes : List ℕ) (r : Report) : Type 0 where
  pub number : r.number ≡ (refusal_of t bytes).number
  pub member : r.member ≡ (refusal_of t bytes).member
  pub first : r.first ≡ (refusal_of t bytes).first
  pub second : r.second ≡ (refusal_of t bytes).second
  pub refused : (Accepted t bytes → ⊥) → Unanswered r
  pub accepted : Accepted t bytes → Answered (design_of t (values_of bytes)) r

-- what `judge_with` promises, and `judge` at the printed table: the claim, and which report it makes, so that equal bytes give equal reports
pub record Reported (t : Table) (bytes : List ℕ) (r : Report) : Type 0 where
  pub claim : Judged t bytes r
  pub is : r ≡ report_of t bytes
