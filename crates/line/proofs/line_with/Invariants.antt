-- What stands in the line so far, and the room that it takes.
use Rattle.std.proofs.Common.{◌+◌, ◌*◌, ◌≤◌, ◌≡◌, ◌++◌, length, take}
use Rattle.std.specs.List.{flat_map}
use Rattle.arrayvec.specs.ArrayString.{array_string_len}
use Rattle.line.specs.Line.{field_of}
use Rattle.line.proofs.line_with.Given as goal

abbrev pub invariant-loop-n : goal.invariant-loop-n
invariant-loop-n l = record {
  bytes : l.line.bytes ≡ l.word ++ flat_map field_of (take l.n-index l.numbers);
  near : array_string_len l.line ≤ length l.word + 21 * l.n-index;
}
