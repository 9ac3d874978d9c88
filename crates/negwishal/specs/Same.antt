-- What it is that two tables give the same answers through every entry for C, and that a table is refused by every entry.
use Rattle.std.specs.Prelude.{ℕ, ◌≡◌, List, ℤ}
use Rattle.tables.specs.Table.{Table, table_number}
use Rattle.joint.specs.Answer.{Report}
use Rattle.joint.specs.Answer.Verdict.{Refused}
use Rattle.joint.specs.Refusal.{zero_values}
use Rattle.lent.specs.Lent.{told, put}
use Rattle.negwishal.specs.Export.{filled, judge_short, Exported}
use Rattle.negwishal.specs.Exchange.{Places, read_short, read_into, ReadOut, write_short, WroteOut}

-- by both tables each entry returns the same, and leaves the same in every slice, where it is handed the same slices and all else is the same
pub record SameAnswers (t u : Table) : Type 0 where
  pub loaded : table_number t ≡ table_number u
  pub judged : (bytes entry : List ℕ) (a b : ℕ) (q r : List ℕ) → Exported t bytes entry a q → Exported u bytes entry b r → (a ≡ b) × (q ≡ r)
  pub read : (bytes : List ℕ) (entry : Places) (a b : ℕ) (q r : Places) → ReadOut t bytes entry a q → ReadOut u bytes entry b r → (a ≡ b) × (q ≡ r)
  pub wrote : (fields x y : List ℤ) (buffer answer : List ℕ) (a b : ℕ) (q r v w : List ℕ)
      → WroteOut t fields x y buffer answer a q v → WroteOut u fields x y buffer answer b r w → (a ≡ b) × (q ≡ r) × (v ≡ w)

-- the report of a refusal that has no place
abbrev pub refused_report : ℕ → Report
refused_report number = record {
  verdict = Refused;
  number = number;
  member = 0;
  first = 0;
  second = 0;
  usage = 0;
  capacity = 0;
  share = 0;
}

-- loading answers this number; every record is refused by it, with no place; every reading has it, and values that are all 0; the writer answers it with
-- length 0, and the buffer stays
pub record RefusedBy (number : ℕ) (t : Table) : Type 0 where
  pub loaded : table_number t ≡ number
  pub judged : (bytes entry : List ℕ) (a : ℕ) (q : List ℕ) → Exported t bytes entry a q
      → q ≡ put (judge_short entry) (filled (refused_report number)) entry
  pub read : (bytes : List ℕ) (entry : Places) (a : ℕ) (q : Places) → ReadOut t bytes entry a q
      → q ≡ read_into (read_short entry) (record { number = number; values = zero_values }) entry
  pub wrote : (fields x y : List ℤ) (buffer answer : List ℕ) (a : ℕ) (q v : List ℕ) → WroteOut t fields x y buffer answer a q v
      → (q ≡ buffer) × (v ≡ put (write_short fields answer) (told number 0) answer)
