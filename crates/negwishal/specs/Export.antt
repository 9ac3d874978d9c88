-- The entries for C that judge a record: which number stands for a verdict, in which order the fields come, what comes back, and what the
-- slice holds afterwards.
use Rattle.std.specs.Prelude.{ℕ, ◌≡◌, Bool, List, [], ◌∷◌, ltb, length}
use Rattle.tables.specs.Table.{Table}
use Rattle.joint.specs.Answer.{Verdict, Report}
use Rattle.joint.specs.Answer.Verdict.{Fits, Overloaded, Refused}
use Rattle.joint.specs.Claim.{Judged}
use Rattle.joint.specs.Returned.{report_of}
use Rattle.lent.specs.Lent.{code_of, put}

abbrev pub verdict_code : Verdict → ℕ
verdict_code Refused = 0
verdict_code Fits = 1
verdict_code Overloaded = 2

-- verdict, number, member, first, second, use, capacity, share
abbrev pub filled : Report → List ℕ
filled r =
    verdict_code r.verdict ∷ r.number ∷ r.member ∷ r.first ∷ r.second ∷ r.usage ∷ r.capacity ∷ r.share ∷ []

-- a report takes eight numbers
abbrev pub judge_short : List ℕ → Bool
judge_short entry = ltb (length entry) 8

-- by a table: what comes back and what the slice holds afterwards; the report that stands there is judged right
pub record Exported (t : Table) (bytes entry : List ℕ) (answer : ℕ) (exit : List ℕ) : Type 0 where
  pub code : answer ≡ code_of (judge_short entry)
  pub out : exit ≡ put (judge_short entry) (filled (report_of t bytes)) entry
  pub claim : Judged t bytes (report_of t bytes)
