-- A little-endian number in a list of bytes.
use Rattle.std.specs.Prelude.{ℕ, ◌+◌, ◌*◌, List}
use Rattle.numbers.specs.Numbers.{u32_at}

abbrev pub u64_at : List ℕ → ℕ → ℕ
u64_at s at = u32_at s at + u32_at s (at + 4) * 4294967296
