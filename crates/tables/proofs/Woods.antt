-- What is needed of a wood that a table has, whatever its codes, holds where each line passes its test.
use mathlib.Core.Path.{◌≡◌}
use mathlib.Core.Bool.{true}
use mathlib.Core.List.{List}
use Rattle.std.specs.Prelude.{Option}
use Rattle.codes.specs.declared.Wood.{Wood}
use Rattle.codes.specs.Tables.{Line, printed_classes}
use Rattle.codes.proofs.Woods.{lines_pass, passed_at, printed_pass}
use Rattle.tables.specs.Classes.{class_in, Sound}

pub sound : (ls : List (Line (Option Wood))) → lines_pass ls ≡ true → Sound ls
unfolding class_in
sound ls h = record {
  byte = λ c k. (passed_at ls h c k).byte;
  density_low = λ c k. (passed_at ls h c k).low;
  density_high = λ c k. (passed_at ls h c k).high;
}

pub printed_sound : Sound printed_classes
printed_sound = sound printed_classes printed_pass
