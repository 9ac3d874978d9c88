-- Document 01, 'Printing': the line that the program writes, as bytes.
use Rattle.std.specs.Prelude.{ℕ, zero, suc, ◌+◌, ◌/◌, ◌%◌, ◌≤◌, ◌≡◌, cond, List, [], ◌∷◌, ◌++◌, length, take, ltb}
use Rattle.joint.specs.Answer.{Verdict}
use Rattle.joint.specs.Answer.Verdict.{Fits, Overloaded, Refused}
use Rattle.joint.specs.Answer.{Report}

-- the words of 01, in ASCII
abbrev pub word_of : Verdict → List ℕ
-- f i t s
word_of Fits = 102 ∷ 105 ∷ 116 ∷ 115 ∷ []
-- o v e r l o a d e d
word_of Overloaded = 111 ∷ 118 ∷ 101 ∷ 114 ∷ 108 ∷ 111 ∷ 97 ∷ 100 ∷ 101 ∷ 100 ∷ []
-- r e f u s e d
word_of Refused = 114 ∷ 101 ∷ 102 ∷ 117 ∷ 115 ∷ 101 ∷ 100 ∷ []

-- a number in decimal, with no sign and no leading zeros: at most f + 1 digits; 48 is the digit 0
abbrev pub digit_of : ℕ → ℕ
digit_of n = 48 + n % 10

unfoldable pub decimal_from : ℕ → ℕ → List ℕ
decimal_from zero n = digit_of n ∷ []
decimal_from (suc f) n = cond (ltb n 10) (digit_of n ∷ []) (decimal_from f (n / 10) ++ (digit_of n ∷ []))

-- a 64-bit number has at most 20 digits
abbrev pub decimal_of : ℕ → List ℕ
decimal_of n = decimal_from 19 n

-- a space, then the number
abbrev pub field_of : ℕ → List ℕ
field_of n = 32 ∷ decimal_of n

-- 'fits U C E', 'overloaded U C E'
abbrev pub figures_after : List ℕ → Report → List ℕ
figures_after word r = word ++ (field_of r.usage ++ (field_of r.capacity ++ (field_of r.share ++ (10 ∷ []))))

-- 'refused with number, member, first and second dowel'
abbrev pub place_after : List ℕ → Report → List ℕ
place_after word r =
    word ++ (field_of r.number ++ (field_of r.member ++ (field_of r.first ++ (field_of r.second ++ (10 ∷ [])))))

-- one line, ended by a newline, 10
abbrev pub line_for : Verdict → Report → List ℕ
line_for Fits r = figures_after (word_of Fits) r
line_for Overloaded r = figures_after (word_of Overloaded) r
line_for Refused r = place_after (word_of Refused) r

unfoldable pub line_of : Report → List ℕ
line_of r = line_for r.verdict r

-- a text put into a line from `at` on ends at `end`, at most `most` bytes on, and what stands before it stays
pub record Added (before after : List ℕ) (at end most : ℕ) (text : List ℕ) : Type 0 where
  pub size : length after ≡ length before
  pub near : end ≤ at + most
  pub stands : take end after ≡ take at before ++ text
