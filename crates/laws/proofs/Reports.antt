-- The report on a record that passes 1 to 9 follows from its values.
use mathlib.Core.Path.{◌≡◌, refl, ◌∙◌}
use mathlib.Core.Bool.{cond}
use mathlib.Core.List.{List}
use Prim.Native.Nat.{ℕ}
use lib.Dec.{eqb}
use Rattle.tables.specs.Table.{Table, Loaded, Right}
use Rattle.joint.specs.declared.Values.{Values}
use Rattle.joint.specs.Answer.{Report}
use Rattle.joint.specs.Layout.{values_of}
use Rattle.joint.specs.Refusal.{drill_fault, refusal_of}
use Rattle.joint.specs.Returned.{answered, unanswered, report_of}
use Rattle.joint.proofs.Faults.{number_of_record}
use Rattle.laws.specs.Drawn.{Passes}

abbrev pub by_values : Table → Values → Report
by_values t v = cond (eqb (drill_fault v).number 0) (answered t v) (unanswered (drill_fault v))

pub report_is : (t : Table) → Right t → Loaded t → (s : List ℕ) → Passes t s → report_of t s ≡ by_values t (values_of s)
unfolding report_of refusal_of
report_is t k l s p = rw (number_of_record t k l s ∙ p) refl
