-- Fields that stand one right after the other. Their widths are listed once, and so each one's place is said once, for reading and for
-- writing.
use Rattle.std.specs.Prelude.{ℕ, zero, suc, ◌+◌, List, [], ◌∷◌, ◌++◌, get_or, ℤ, pos, nat_abs}
use Rattle.numbers.specs.Numbers.{u8_at, u16_at, i32_at, u8_bytes, u16_bytes, i32_bytes}

pub data Width : Type 0 where
  U8 : Width
  U16 : Width
  I32 : Width

abbrev pub wide : Width → ℕ
wide U8 = 1
wide U16 = 2
wide I32 = 4

-- a number read at byte i, and the bytes of a number
abbrev pub number_at : Width → List ℕ → ℕ → ℤ
number_at U8 s i = pos (u8_at s i)
number_at U16 s i = pos (u16_at s i)
number_at I32 s i = i32_at s i

abbrev pub number_bytes : Width → ℤ → List ℕ
number_bytes U8 z = u8_bytes (nat_abs z)
number_bytes U16 z = u16_bytes (nat_abs z)
number_bytes I32 z = i32_bytes z

-- how many bytes fields take, and how many stand before field k, counted from 0
abbrev pub size : List Width → ℕ
size [] = 0
size (w ∷ ws) = wide w + size ws

abbrev pub place : List Width → ℕ → ℕ
place ws zero = 0
place [] (suc k) = 0
place (w ∷ ws) (suc k) = wide w + place ws k

-- field k of those that start at byte i: with a sign, or without one
abbrev pub signed_field : List Width → ℕ → List ℕ → ℕ → ℤ
signed_field ws k s i = number_at (get_or ws k U8) s (i + place ws k)

abbrev pub field : List Width → ℕ → List ℕ → ℕ → ℕ
field ws k s i = nat_abs (signed_field ws k s i)

-- the bytes of all fields, by their numbers
abbrev pub field_bytes : List Width → List ℤ → List ℕ
field_bytes [] zs = []
field_bytes (w ∷ ws) [] = []
field_bytes (w ∷ ws) (z ∷ zs) = number_bytes w z ++ field_bytes ws zs
