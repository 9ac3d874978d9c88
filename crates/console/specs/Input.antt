-- Document 01, 'Printing': what the program makes of its input.
use Rattle.std.specs.Prelude.{ℕ, ◌≤◌, ◌≡◌, Bool, true, false, cond, not, ◌||◌, List, [], take, eqb, Option, Some, None, is_none, unwrap_or}
use Rattle.tables.specs.Table.{printed}
use Rattle.joint.specs.Answer.{Report}
use Rattle.joint.specs.Claim.{Judged, Unanswered}
use Rattle.joint.specs.Returned.{unanswered, report_of}
use Rattle.spacing.specs.Verdict.{fault}
use Rattle.line.specs.Line.{line_of}
use Rattle.joint.specs.declared.report.Judgement.{Judgement}
use Rattle.joint.specs.Told.{told}
use Rattle.console.specs.declared.Reply.{Reply}

-- The program asks twice: for up to 4,096 bytes, then for one byte more. Each time some bytes come, none at the end of the input, or
-- a read fails, which is `None`.
abbrev pub Came : Type 0
Came = Option ℕ

abbrev pub count_of : Came → ℕ
count_of came = unwrap_or came 0

abbrev pub failed : Came → Bool
failed came = is_none came

-- a read failed: nothing is judged, and there is no line
abbrev pub unread : Came → Came → Bool
unread first second = failed first || failed second

-- more than 4,096 bytes came
abbrev pub more_of : Came → Bool
more_of second = not (eqb (count_of second) 0)

-- a number, no place and no figures
pub record Bare (number : ℕ) (r : Report) : Type 0 where
  pub numbered : r.number ≡ number
  pub member : r.member ≡ 0
  pub first : r.first ≡ 0
  pub second : r.second ≡ 0
  pub figures : Unanswered r

-- '(more prints as refusal 4, before any other test)': of the first `count` bytes of a buffer, and whether more came
abbrev pub InputJudged : List ℕ → ℕ → Bool → Report → Type 0
InputJudged buffer count true r = Bare 4 r
InputJudged buffer count false r = Judged printed (take count buffer) r

abbrev pub Said : Bool → List ℕ → ℕ → Bool → Report → Type 0
Said true buffer count more r = Bare 0 r
Said false buffer count more r = InputJudged buffer count more r

-- 'and writes one line'
abbrev pub line_when : Bool → Report → List ℕ
line_when true r = []
line_when false r = line_of r

-- the report that the program makes; a number 0, no place and no figures where nothing was judged
abbrev pub report_in : Option Judgement → Report
report_in (Some j) = told j
report_in None = unanswered (fault 0 0 0 0)

-- what the program answers, from what came and the buffer that it stands in
pub record Told (first second : Came) (buffer : List ℕ) (a : Reply) : Type 0 where
  pub asked : a.first ≡ first
  pub asked_more : a.second ≡ second
  pub count : a.count ≡ count_of first
  pub more : a.more ≡ more_of second
  pub report : Said (unread first second) buffer a.count a.more (report_in a.judgement)
  pub line : a.line.bytes ≡ line_when (unread first second) (report_in a.judgement)

-- 'The program reads standard input up to 4,096 bytes'
pub record Replied (buffer : List ℕ) (a : Reply) : Type 0 where
  pub told : Told a.first a.second buffer a
  pub most : a.count ≤ 4096

-- ---- which report is made; nobody needs to believe this
unfoldable pub input_report : List ℕ → ℕ → Bool → Report
input_report buffer count more = cond more (unanswered (fault 4 0 0 0)) (report_of printed (take count buffer))

-- what the program's rule promises: the claim, and which report it makes
pub record InputReported (buffer : List ℕ) (count : ℕ) (more : Bool) (r : Report) : Type 0 where
  pub claim : InputJudged buffer count more r
  pub is : r ≡ input_report buffer count more
