-- Numbers in bytes, read and written, and the limits of the signed ones (01, 'The record'). A stretch of bytes is their list; bytes past
-- its end read as 0.
use Rattle.std.specs.Prelude.{ℕ, ◌+◌, ◌*◌, ◌-◌, ◌/◌, ◌%◌, List, [], ◌∷◌, ◌++◌, Bool, cond, ◌&&◌, get_or, ℤ, pos, negsuc, neg_ℤ, ◌-ℤ◌, ltb}
use Rattle.std.specs.Int.Signed.{le_z}

-- 'Numbers of more than one byte are little-endian; i32 is two's complement.'
abbrev pub u8_at : List ℕ → ℕ → ℕ
u8_at s i = get_or s i 0

abbrev pub u16_at : List ℕ → ℕ → ℕ
u16_at s i = u8_at s i + u8_at s (i + 1) * 256

abbrev pub u32_at : List ℕ → ℕ → ℕ
u32_at s i = u16_at s i + u16_at s (i + 2) * 65536

-- below 2^31 the number itself, from there on 2^32 less
unfoldable pub twos_complement : ℕ → ℤ
twos_complement n = cond (ltb n 2147483648) (pos n) (pos n -ℤ pos 4294967296)

unfoldable pub i32_at : List ℕ → ℕ → ℤ
i32_at s i = twos_complement (u32_at s i)

-- and back, the lowest byte first: of n below 256, below 65,536 and below 2^32
abbrev pub u8_bytes : ℕ → List ℕ
u8_bytes n = n ∷ []

abbrev pub u16_bytes : ℕ → List ℕ
u16_bytes n = n % 256 ∷ n / 256 ∷ []

abbrev pub u32_bytes : ℕ → List ℕ
u32_bytes n = u16_bytes (n % 65536) ++ u16_bytes (n / 65536)

-- from 0 on the number itself, below it 2^32 more; `negsuc n` is -1 - n
unfoldable pub complement_of : ℤ → ℕ
complement_of (pos n) = n
complement_of (negsuc n) = 4294967295 - n

abbrev pub i32_bytes : ℤ → List ℕ
i32_bytes z = u32_bytes (complement_of z)

abbrev pub between_z : ℤ → ℤ → ℤ → Bool
between_z low high z = le_z low z && le_z z high

-- 'Coordinates run from -100,000 to 100,000, force components from -1,000,000 to 1,000,000.'
unfoldable pub coordinate : ℤ → Bool
coordinate z = between_z (neg_ℤ (pos 100000)) (pos 100000) z

unfoldable pub force : ℤ → Bool
force z = between_z (neg_ℤ (pos 1000000)) (pos 1000000) z
