-- The number by which a table is turned away that an answer of loading tells: 14, 15 or 16, and 0 where it loads.
use Rattle.std.specs.Prelude.{ℕ, Result, Ok, Err}
use Rattle.tables.specs.declared.Refusal.{Refusal}
use Rattle.tables.specs.declared.Refusal.TheVariants.{OtherLayout, EntryOutside, OtherFirm}

abbrev pub number_of : Refusal → ℕ
number_of OtherLayout = 14
number_of EntryOutside = 15
number_of OtherFirm = 16

abbrev pub told : Result (Unit {0}) Refusal → ℕ
told (Ok x) = 0
told (Err r) = number_of r
