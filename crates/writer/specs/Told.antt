-- 01, 'When an answer is an enum, the promises use a definition that gives this paper's number and values for each case.'
use Rattle.std.specs.Prelude.{ℕ, Result, Ok, Err}
use Rattle.tables.specs.Told.{number_of as table_number}
use Rattle.joint.specs.Told.{number_of as record_number}
use Rattle.writer.specs.declared.Unwritten.{Unwritten}
use Rattle.writer.specs.declared.Unwritten.TheVariants.{Table, Values, BufferTooShort}
use Rattle.writer.specs.Write.{Written}

abbrev pub number_of : Unwritten → ℕ
number_of (Table r) = table_number r
number_of (Values r) = record_number r
number_of BufferTooShort = 13

abbrev pub told : Result ℕ Unwritten → Written
told (Ok length) = record { number = 0; length = length }
told (Err r) = record { number = number_of r; length = 0 }
