-- Tables that are turned away alike and have the same classes give the same answers through every entry for C; a table that does not load is refused
-- by every entry.
use Prim.Native.Nat.{ℕ}
use mathlib.Core.Path.{◌≡◌, refl, sym, ap, ◌∙◌}
use mathlib.Core.Bool.{Bool, true, false, cond}
use mathlib.Core.List.{List}
use lib.ListN.{length}
use Rattle.tables.specs.Tests.{first_holding}
use Rattle.tables.specs.Table.{Table, turned_away, Right, Alike, printed, printed_bytes, printed_as_own}
use Rattle.tables.proofs.Loading.{own_right, printed_right}
use Rattle.tables.proofs.Same.{printed_alike}
use Rattle.joint.specs.Answer.{Report, Reading}
use Rattle.joint.specs.Returned.{unanswered}
use Rattle.joint.proofs.Alike.{same_report, same_reading}
use Rattle.joint.proofs.Faults.{not_read}
use Rattle.joint.proofs.Claims.{report_not_loaded}
use Rattle.writer.specs.Write.{Written}
use Rattle.writer.proofs.Alike.{same_written, same_buffer}
use Rattle.writer.proofs.Steps.{not_written}
use Rattle.lent.specs.Lent.{put}
use Rattle.lent.specs.Numbers.{fields_in}
use Rattle.negwishal.specs.Export.{filled, judge_short}
use Rattle.negwishal.specs.Exchange.{read_short, read_into, write_short, written}
use Rattle.negwishal.specs.Same.{SameAnswers, RefusedBy}

module _ (t u : Table) (p : Right t) (q : Right u) (alike : Alike t u) where
  pub same_answers : SameAnswers t u
  same_answers = record {
    loaded = alike.number;
    judged = λ bytes entry _ _ _ _ e f. (
      e.code ∙ sym f.code,
      e.out ∙ ap (λ (z : Report). put (judge_short entry) (filled z) entry) (same_report t u p q alike bytes) ∙ sym f.out,
    );
    read = λ bytes entry _ _ _ _ e f. (
      e.code ∙ sym f.code,
      e.out ∙ ap (λ (z : Reading). read_into (read_short entry) z entry) (same_reading t u p q alike bytes) ∙ sym f.out,
    );
    wrote = λ fields x y buffer answer _ _ _ _ _ _ e f. (
      e.code ∙ sym f.code,
      e.bytes
          ∙ ap (λ (z : List ℕ). cond (write_short fields answer) buffer z) (same_buffer t u p q alike (fields_in fields) x y buffer)
          ∙ sym f.bytes,
      e.out
          ∙ ap (λ (z : Written). put (write_short fields answer) (written z) answer)
          (same_written t u p q alike (fields_in fields) x y (length buffer))
          ∙ sym f.out,
    );
  }

-- ---- a table that is turned away
either_way : (s : Bool) (l : List ℕ) → cond s l l ≡ l
either_way true l = refl
either_way false l = refl

pub refused : (number : ℕ) → (number ≡ 0 → ⊥) → RefusedBy number (turned_away number)
unfolding first_holding unanswered
refused number none =
    let t = turned_away number in
    record {
      loaded = refl;
      judged = λ bytes entry _ _ e. e.out ∙ ap (λ (z : Report). put (judge_short entry) (filled z) entry) (report_not_loaded t bytes none);
      read = λ bytes entry _ _ e. e.out ∙ ap (λ (z : Reading). read_into (read_short entry) z entry) (not_read t bytes none);
      wrote = λ fields x y buffer answer _ _ _ e.
          let w = not_written t (fields_in fields) x y buffer none in (
            e.bytes ∙ ap (λ (z : List ℕ). cond (write_short fields answer) buffer z) (sym w.buffer) ∙ either_way (write_short fields answer) buffer,
            e.out ∙ ap (λ (z : Written). put (write_short fields answer) (written z) answer) (sym w.answer),
          );
    }

-- ---- 'The printed table, written in this layout .. with it every report, reading and writing equals the call without a table' (02, A4)
pub printed_as_bytes : SameAnswers printed_as_own printed
printed_as_bytes = same_answers printed_as_own printed (own_right printed_bytes) printed_right printed_alike
