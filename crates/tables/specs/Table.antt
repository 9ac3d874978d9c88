-- The table by which the classes of a record are read: the printed one, or a firm's, which is handed in as bytes, here the list of them: its own (02,
-- A4), or its stretch of one that two firms share (A6).
use Rattle.std.specs.Prelude.{ℕ, ◌-◌, ◌≡◌, Bool, true, cond, not, ◌||◌, List, [], ◌∷◌, ◌++◌, map, eqb, pos, length, take, Option}
use Rattle.numbers.specs.Numbers.{u16_bytes}
use Rattle.numbers.specs.Fields.{field_bytes}
use Rattle.codes.specs.declared.Kind.{Kind}
use Rattle.codes.specs.declared.Kind.TheVariants.{Softwood, Hardwood}
use Rattle.codes.specs.declared.Wood.{Wood}
use Rattle.codes.specs.Tables.{Line, printed_classes, is_known, wood_in}
use Rattle.tables.specs.Tests.{Test, test, first_holding, numbered}
use Rattle.tables.specs.Classes.{class_in, Sound}
use Rattle.tables.specs.declared.entry.Entry.{Entry}
use Rattle.tables.specs.Entries.{entry_fields, entries_in, entries_of, refusal15, line_of}
use Rattle.tables.specs.Pairs.{front_size, refusal14, stretch_of}
use Rattle.tables.specs.Told.{number_of}
use Rattle.tables.specs.declared.Source.{Source}
use Rattle.tables.specs.declared.Source.TheVariants.{Printed, Entries, TurnedAway}

-- ---- what a judgement takes: the tests by which the table is turned away, before every other test; and a line for each class
pub record Table : Type 0 where
  pub tests : List Test
  pub classes : List (Line (Option Wood))

-- what it has at a code: whether it has the class, and the class's wood
abbrev pub is_class : Table → ℕ → Bool
is_class t code = is_known (class_in t.classes code)

abbrev pub wood_of : Table → ℕ → Wood
wood_of t code = wood_in (class_in t.classes code)

-- a table is turned away by the first of its tests that holds; it loads where none does
abbrev pub table_number : Table → ℕ
table_number t = first_holding t.tests

abbrev pub Loaded : Table → Type 0
Loaded t = table_number t ≡ 0

-- the printed table is turned away by nothing
abbrev pub printed : Table
printed = record { tests = []; classes = printed_classes }

-- a table of entries, by 15
abbrev pub entries_table : List Entry → Table
entries_table es = record { tests = test 15 (refusal15 es) ∷ []; classes = map line_of es }

-- one that is turned away before it comes to its entries has none
abbrev pub turned_away : ℕ → Table
turned_away number = record { tests = test number true ∷ []; classes = [] }

-- ---- in bytes: 14 is 'tested first', and then the stretch of pair k is all that counts
abbrev pub stretch_table : ℕ → ℕ → List ℕ → Table
stretch_table pairs k b = cond (refusal14 pairs b) (turned_away 14) (entries_table (entries_in (stretch_of k b)))

-- A4, a firm's own: 'u16 count of pairs, 1; one pair'
abbrev pub own_table : List ℕ → Table
own_table b = stretch_table 1 0 b

-- A6, 'a u16 count, 2, then two pairs'. 'A call says for which firm it works and uses that firm's stretch only': firm 1 the first, firm 2 the
-- second. '16, the firm number is neither 1 nor 2, before anything else'
unfoldable pub refusal16 : ℕ → Bool
refusal16 firm = not (eqb firm 1 || eqb firm 2)

abbrev pub shared_table : ℕ → List ℕ → Table
shared_table firm b = cond (refusal16 firm) (turned_away 16) (stretch_table 2 (firm - 1) b)

-- ---- the table that a call names: 'It replaces the printed table'
abbrev pub table_of : Source → Table
table_of Printed = printed
table_of (Entries fours) = entries_table (entries_of fours.now)
table_of (TurnedAway r) = turned_away (number_of r)

-- what laws about any table ask of it: a refusal of its own is no 0, and where it loads its classes are sound. So is every table that a call
-- names (`right`, proofs/Loading).
pub record Right (t : Table) : Type 0 where
  pub no_zero : numbered t.tests ≡ true
  pub sound : Loaded t → Sound t.classes

-- ---- a table as a firm's own bytes
-- of a stretch of entries: 01 00 06 00, the length, the stretch
abbrev pub own_bytes : List ℕ → List ℕ
own_bytes stretch = 1 ∷ 0 ∷ 6 ∷ 0 ∷ u16_bytes (length stretch) ++ stretch

-- of classes
abbrev pub kind_code : Kind → ℕ
kind_code Softwood = 0
kind_code Hardwood = 1

abbrev pub line_bytes : Line (Option Wood) → List ℕ
line_bytes l =
    field_bytes entry_fields
    (pos l.code ∷ pos (kind_code (wood_in l.entry).kind) ∷ pos (wood_in l.entry).density ∷ [])

abbrev pub lines_bytes : List (Line (Option Wood)) → List ℕ
lines_bytes [] = []
lines_bytes (l ∷ ls) = line_bytes l ++ lines_bytes ls

-- 'The printed table, written in this layout'
abbrev pub printed_bytes : List ℕ
printed_bytes = own_bytes (lines_bytes printed_classes)

abbrev pub printed_as_own : Table
printed_as_own = own_table printed_bytes

-- A6: 'A4's table of the same entries' as those of a firm in a shared table
abbrev pub alone_bytes : ℕ → List ℕ → List ℕ
alone_bytes firm b = own_bytes (stretch_of (firm - 1) b)

-- ---- tables that are turned away alike and have the same classes
pub record Alike (t u : Table) : Type 0 where
  pub number : table_number t ≡ table_number u
  pub classes : t.classes ≡ u.classes

-- ---- shared tables that differ in the other firm's stretch at most: 'With the pairs fixed', of one length, and with the same stretch of this firm
pub record SameFor (firm : ℕ) (a b : List ℕ) : Type 0 where
  pub size : length a ≡ length b
  pub front : take (front_size 2) a ≡ take (front_size 2) b
  pub stretch : stretch_of (firm - 1) a ≡ stretch_of (firm - 1) b
