-- How a table in bytes is laid out, here the list of them: a count of pairs, the pairs, and for each pair a stretch of entries. A firm's own table
-- has one pair (02, A4), a table that two firms share has two (A6). Pairs are counted from 0.
use Rattle.std.specs.Prelude.{ℕ, zero, suc, ◌+◌, ◌*◌, ◌%◌, Bool, true, not, ◌&&◌, ◌||◌, List, ltb, eqb, length, take, drop}
use Rattle.numbers.specs.Numbers.{u16_at}
use Rattle.numbers.specs.Fields.{size}
use Rattle.chain.specs.Chain.{pair_bytes, offset_of, length_of, chained}
use Rattle.chain.specs.declared.Width.TheVariants.{Two}
use Rattle.tables.specs.Entries.{entry_fields}

-- 'u16 count of pairs', and right after it the pairs, 'of u16, offset and length'
abbrev pub pair_count : List ℕ → ℕ
pair_count b = u16_at b 0

abbrev pub first_pair : ℕ
first_pair = 2

-- where the first stretch starts, right after the pairs: A4, 'offset 6'; A6, 'the first offset 10'
abbrev pub front_size : ℕ → ℕ
front_size pairs = first_pair + pairs * pair_bytes Two

-- a length that is a multiple of 4, in each of the first n pairs
unfoldable pub all_whole : List ℕ → ℕ → Bool
all_whole b zero = true
all_whole b (suc n) = all_whole b n && eqb (length_of Two b first_pair n % size entry_fields) 0

-- A4: '14, fewer than 6 bytes, count not 1, pair against this layout or not up to the table's end, or a length that is 0 or no multiple of
-- 4'. A6: 'the stretches end to end up to the table's end. .. Fewer than 10 bytes, a count other than 2, pairs against this layout, or a
-- length that is 0 or no multiple of 4'. That no length is 0 is part of `chained`.
unfoldable pub refusal14 : ℕ → List ℕ → Bool
refusal14 pairs b =
    ltb (length b) (front_size pairs) || not (eqb (pair_count b) pairs) || not (chained Two b first_pair (front_size pairs) pairs)
    || not (all_whole b pairs)

-- the stretch that pair k names
abbrev pub stretch_of : ℕ → List ℕ → List ℕ
stretch_of k b = take (length_of Two b first_pair k) (drop (offset_of Two b first_pair k) b)
