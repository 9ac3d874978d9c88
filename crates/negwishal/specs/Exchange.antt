-- The entries for C that read a record's values and write a record (02, A2), by a table (A4): what comes back, and what every lent slice holds
-- afterwards.
use Rattle.std.specs.Prelude.{ℕ, ◌≡◌, Bool, cond, ◌||◌, List, ltb, ℤ, length}
use Rattle.tables.specs.Table.{Table}
use Rattle.joint.specs.Answer.{Reading}
use Rattle.joint.specs.Refusal.{reading_of}
use Rattle.writer.specs.Read.{fields_of, marks_of}
use Rattle.writer.specs.Write.{Written, written_of, buffer_after}
use Rattle.lent.specs.Lent.{told, code_of, put}
use Rattle.lent.specs.Numbers.{fields_in, numbers_of}

-- ---- reading: the slices that are lent
pub record Places : Type 0 where
  pub fields : List ℤ
  pub x : List ℤ
  pub y : List ℤ
  pub marks : List ℤ
  pub answer : List ℕ

abbrev pub places : List ℤ → List ℤ → List ℤ → List ℤ → List ℕ → Places
places f x y m a = record { fields = f; x = x; y = y; marks = m; answer = a }

abbrev pub read_short : Places → Bool
read_short p =
    ltb (length p.fields) 27 || ltb (length p.x) 64 || ltb (length p.y) 64 || ltb (length p.marks) 64
    || ltb (length p.answer) 2

-- on refusal all values are 0
abbrev pub read_into : Bool → Reading → Places → Places
read_into short r p =
    record {
      fields = put short (numbers_of (fields_of r.values)) p.fields;
      x = put short r.values.positions.x p.x;
      y = put short r.values.positions.y p.y;
      marks = put short (marks_of r.values) p.marks;
      answer = put short (told r.number r.values.positions.n) p.answer;
    }

pub record ReadOut (t : Table) (bytes : List ℕ) (entry : Places) (result : ℕ) (exit : Places) : Type 0 where
  pub code : result ≡ code_of (read_short entry)
  pub out : exit ≡ read_into (read_short entry) (reading_of t bytes) entry

-- ---- writing: `fields`, `x` and `y` are handed over, and `buffer` and `answer` are lent; the marks are not looked at
abbrev pub write_short : List ℤ → List ℕ → Bool
write_short fields answer = ltb (length fields) 27 || ltb (length answer) 2

-- the refusal's number and the record's length
abbrev pub written : Written → List ℕ
written w = told w.number w.length

pub record WroteOut (t : Table) (fields x y : List ℤ) (buffer answer : List ℕ) (result : ℕ) (bufferExit answerExit : List ℕ) : Type 0 where
  pub code : result ≡ code_of (write_short fields answer)
  pub bytes : bufferExit ≡ cond (write_short fields answer) buffer (buffer_after t (fields_in fields) x y buffer)
  pub out :
      answerExit ≡ put (write_short fields answer) (written (written_of t (fields_in fields) x y (length buffer))) answer
