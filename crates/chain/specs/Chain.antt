-- Pairs of offset and length that lay parts end to end: the record's (01, 'The record') and those of 02, A4, A6 and A14. A whole is the list
-- of its bytes. Its pairs stand one after the other from byte `at` on, are counted from 0, and the first part has to start at byte `first`.
use Rattle.std.specs.Prelude.{ℕ, zero, suc, ◌+◌, ◌*◌, ◌≡◌, List, Bool, true, not, ◌&&◌, eqb, length, set}
use Rattle.numbers.specs.Numbers.{u16_at, u32_at}
use Rattle.chain.specs.declared.Width.{Width}
use Rattle.chain.specs.declared.Width.TheVariants.{Two, Four}

-- 'pairs of u16, offset and length'; A14: 'pairs of u32'
abbrev pub bytes_of : Width → ℕ
bytes_of Two = 2
bytes_of Four = 4

abbrev pub pair_bytes : Width → ℕ
pair_bytes w = 2 * bytes_of w

unfoldable pub number_at : Width → List ℕ → ℕ → ℕ
number_at Two s i = u16_at s i
number_at Four s i = u32_at s i

-- a list with its first n numbers those of f; the others stay
unfoldable pub filled : (ℕ → ℕ) → ℕ → List ℕ → List ℕ
filled f zero l = l
filled f (suc n) l = set (filled f n l) n (f n)

-- a part that starts where it has to; 'No length is 0.'
abbrev pub continues : ℕ → ℕ → ℕ → Bool
continues offset bytes start = eqb offset start && not (eqb bytes 0)

module _ (w : Width) (s : List ℕ) (at : ℕ) where
  abbrev pub offset_of : ℕ → ℕ
  offset_of k = number_at w s (at + k * pair_bytes w)

  abbrev pub length_of : ℕ → ℕ
  length_of k = number_at w s (at + k * pair_bytes w + bytes_of w)

  -- a true sum, which may pass the greatest number of the width
  abbrev pub sum_of : ℕ → ℕ
  sum_of k = offset_of k + length_of k

  module _ (first : ℕ) where
    -- 'The first offset is .., each next is the sum of the pair before': where part k has to start, and after the last pair, where the
    -- whole has to end
    unfoldable pub bound : ℕ → ℕ
    bound zero = first
    bound (suc k) = sum_of k

    unfoldable pub all_follow : ℕ → Bool
    all_follow zero = true
    all_follow (suc n) = all_follow n && continues (offset_of n) (length_of n) (bound n)

    -- n pairs; 'the last sum is the record's length'. They are sorted by offset where this holds.
    unfoldable pub chained : ℕ → Bool
    chained n = all_follow n && eqb (bound n) (length s)

    -- what reading n pairs answers, with the numbers before and after in a list that it is lent: the bounds are its first n + 1
    pub record Read (n : ℕ) (before after : List ℕ) (answer : Bool) : Type 0 where
      pub whole : answer ≡ chained n
      pub bounds : after ≡ filled bound (suc n) before
