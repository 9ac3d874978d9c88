-- 01, 'When an answer is an enum, the promises use a definition that gives this paper's number and values for each case.'
use Rattle.std.specs.Prelude.{ℕ, Result, Ok, Err, Option, Some, None}
use Rattle.spacing.specs.Verdict.{Fault, fault, fault_of}
use Rattle.spacing.specs.declared.verdict.Fault.{Fault as PlanFault}
use Rattle.joint.specs.declared.places.Kind.{Kind}
use Rattle.joint.specs.declared.places.Kind.TheVariants.{Members, Dowel, Positions, Loads}
use Rattle.joint.specs.declared.Values.{Values}
use Rattle.joint.specs.declared.refusals.Refusal.{Refusal}
use Rattle.joint.specs.declared.refusals.Refusal.TheVariants.{TooFewBytes, OtherVersion, OtherPairCount, PairsAgainstRule, KindsNotOnce, WrongLength, FieldOutside, EmptyOutline, NoForce}
use Rattle.joint.specs.declared.refusals.Unread.{Unread}
use Rattle.joint.specs.declared.refusals.Unread.TheVariants.{Table, Record}
use Rattle.joint.specs.declared.refusals.Rejection.{Rejection}
use Rattle.joint.specs.declared.refusals.Rejection.TheVariants.{Unread as NotRead, Plan}
use Rattle.joint.specs.declared.report.Figures.{Figures}
use Rattle.joint.specs.declared.report.Judgement.{Judgement}
use Rattle.joint.specs.declared.report.Judgement.TheVariants.{Fits, Overloaded, Refused}
use Rattle.joint.specs.Answer.{Reading, Outcome, Report, Verdict}
use Rattle.joint.specs.Answer.Verdict.{Fits as FitsVerdict, Overloaded as OverloadedVerdict}
use Rattle.joint.specs.Refusal.{zero_values, outcome}
use Rattle.tables.specs.Told.{number_of as table_number}
use Rattle.joint.specs.declared.demand.Demand.{Demand as CodeDemand}
use Rattle.joint.specs.Returned.{Demand, unanswered}

-- 'A part's first byte is its kind.'
abbrev pub kind_code : Kind → ℕ
kind_code Members = 1
kind_code Dowel = 2
kind_code Positions = 3
kind_code Loads = 4

-- 01's number of each refusal
abbrev pub number_of : Refusal → ℕ
number_of TooFewBytes = 1
number_of OtherVersion = 2
number_of OtherPairCount = 3
number_of PairsAgainstRule = 4
number_of KindsNotOnce = 5
number_of WrongLength = 6
number_of FieldOutside = 7
number_of EmptyOutline = 8
number_of NoForce = 9

-- of an answer: 0 where nothing is refused
abbrev pub refusal_in : {A : Type 0} → Result A Refusal → ℕ
refusal_in (Ok a) = 0
refusal_in (Err r) = number_of r

-- the number of what keeps a record from being read: the table's, or the record's
abbrev pub unread_number : Unread → ℕ
unread_number (Table r) = table_number r
unread_number (Record r) = number_of r

abbrev pub reading : Result Values Unread → Reading
reading (Ok v) = record { number = 0; values = v }
reading (Err r) = record { number = unread_number r; values = zero_values }

-- 'For 1 to 9 the place is 0, 0, 0', and for 14 to 16
abbrev pub fault_in : Rejection → Fault
fault_in (NotRead r) = fault (unread_number r) 0 0 0
fault_in (Plan f) = fault_of f

-- the fault in the drill plan, where it is one
abbrev pub plan_fault : Rejection → Option PlanFault
plan_fault (NotRead r) = None
plan_fault (Plan f) = Some f

abbrev pub outcome_in : Result Values Rejection → Outcome
outcome_in (Ok v) = outcome (fault 0 0 0 0) v
outcome_in (Err r) = outcome (fault_in r) zero_values

-- a verdict with its figures
abbrev pub report : Verdict → Figures → Report
report v f = record { verdict = v; number = 0; member = 0; first = 0; second = 0; usage = f.usage; capacity = f.capacity; share = f.share }

abbrev pub told : Judgement → Report
told (Fits f) = report FitsVerdict f
told (Overloaded f) = report OverloadedVerdict f
told (Refused r) = unanswered (fault_in r)

-- a demand as the definitions take it
abbrev pub demand_told : CodeDemand → Demand
demand_told d = record {
  total = d.total;
  member1 = d.member1;
  member2 = d.member2;
  planes2 = d.planes2;
  kmod = d.kmod;
  capacity = d.capacity;
}
