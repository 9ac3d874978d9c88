-- What is known of a table that loads.
use Prim.Native.Nat.{ℕ, ◌-◌, ◌<◌}
use mathlib.Core.Path.{◌≡◌, refl}
use mathlib.Core.Bool.{Bool, true, false, cond, and-eq-true_iff}
use mathlib.Core.List.{List, [], ◌∷◌, map}
use mathlib.Core.Logic.{◌⊎◌, inl, inr}
use native.Mathlib.Omega.{arith}
use borrow.Author.Tests.{lt-ltb}
use lib.Dec.{eqb}
use Rattle.codes.specs.Tables.{softwood, hardwood}
use Rattle.tables.specs.Classes.{Sound}
use Rattle.codes.proofs.Woods.{line_test, lines_pass}
use Rattle.tables.proofs.Woods.{sound, printed_sound}
use Rattle.tables.specs.declared.entry.Entry.{Entry}
use Rattle.tables.specs.declared.Refusal.{Refusal}
use Rattle.tables.specs.declared.Refusal.TheVariants.{OtherLayout, EntryOutside, OtherFirm}
use Rattle.tables.specs.declared.Source.{Source}
use Rattle.tables.specs.declared.Source.TheVariants.{Printed, Entries, TurnedAway}
use Rattle.tables.specs.Told.{number_of}
use Rattle.tables.specs.Tests.{first_holding, numbered}
use Rattle.tables.specs.Entries.{entries_in, entries_of, entry_within, rise, refusal15, line_of}
use Rattle.tables.specs.Pairs.{refusal14, stretch_of}
use Rattle.tables.specs.Table.{Table, printed, entries_table, turned_away, stretch_table, own_table, refusal16, shared_table, table_of, table_number, Loaded, Right}

entry_line : (e : Entry) → entry_within e ≡ true → line_test (line_of e).code (line_of e).entry ≡ true
unfolding entry_within line_test
entry_line e h = go (eqb e.kind 0)
  where
    go : (t : Bool) → line_test e.code (cond t (softwood e.density) (hardwood e.density)) ≡ true
    go true = let p = simp and-eq-true_iff at h in simp (p.0.0.0, p.0.1, p.1)
    go false = let p = simp and-eq-true_iff at h in simp (p.0.0.0, p.0.1, p.1)

lines_pass_lem : (before : ℕ) (es : List Entry) → rise before es ≡ true → lines_pass (map line_of es) ≡ true
unfolding rise lines_pass
lines_pass_lem before [] h = refl
lines_pass_lem before (e ∷ es) h =
    let p = simp and-eq-true_iff at h in simp (entry_line e p.0.0, lines_pass_lem e.code es p.1)

-- every class of entries that load has a code of one byte, and a density from 290 to 1,100
pub entries_sound : (es : List Entry) → Loaded (entries_table es) → Sound (entries_table es).classes
unfolding first_holding refusal15
entries_sound es h = go (rise 0 es) refl
  where
    go : (t : Bool) → rise 0 es ≡ t → Sound (map line_of es)
    go true f = sound (map line_of es) (lines_pass_lem 0 es f)
    go false f = absurd (omega (arith, simp (f) at h))

-- ---- what loading answers
turned_number : (n : ℕ) → table_number (turned_away n) ≡ n
unfolding first_holding
turned_number n = refl

entries_number : (es : List Entry) → (table_number (entries_table es) ≡ 0) ⊎ (table_number (entries_table es) ≡ 15)
unfolding first_holding
entries_number es = go (refusal15 es)
  where
    number : Bool → ℕ
    number s = cond s 15 0

    go : (s : Bool) → (number s ≡ 0) ⊎ (number s ≡ 15)
    go true = inr refl
    go false = inl refl

abbrev Answers : Table → Type 0
Answers t = (table_number t ≡ 0) ⊎ (table_number t ≡ 14) ⊎ (table_number t ≡ 15)

stretch_number : (pairs k : ℕ) (b : List ℕ) → Answers (stretch_table pairs k b)
stretch_number pairs k b = go (refusal14 pairs b) (entries_number (entries_in (stretch_of k b)))
  where
    es : List Entry
    es = entries_in (stretch_of k b)

    go : (s : Bool) → (table_number (entries_table es) ≡ 0) ⊎ (table_number (entries_table es) ≡ 15)
        → Answers (cond s (turned_away 14) (entries_table es))
    go true n = inr (inl (turned_number 14))
    go false (inl n) = inl n
    go false (inr n) = inr (inr n)

pub own_number : (b : List ℕ) → (table_number (own_table b) ≡ 0) ⊎ (table_number (own_table b) ≡ 14) ⊎ (table_number (own_table b) ≡ 15)
own_number b = stretch_number 1 0 b

pub shared_number : (firm : ℕ) (b : List ℕ)
    → (table_number (shared_table firm b) ≡ 0) ⊎ (table_number (shared_table firm b) ≡ 14) ⊎ (table_number (shared_table firm b) ≡ 15)
    ⊎ (table_number (shared_table firm b) ≡ 16)
shared_number firm b = go (refusal16 firm) (stretch_number 2 (firm - 1) b)
  where
    go : (s : Bool) → Answers (stretch_table 2 (firm - 1) b)
        → (table_number (cond s (turned_away 16) (stretch_table 2 (firm - 1) b)) ≡ 0)
        ⊎ (table_number (cond s (turned_away 16) (stretch_table 2 (firm - 1) b)) ≡ 14)
        ⊎ (table_number (cond s (turned_away 16) (stretch_table 2 (firm - 1) b)) ≡ 15)
        ⊎ (table_number (cond s (turned_away 16) (stretch_table 2 (firm - 1) b)) ≡ 16)
    go true n = inr (inr (inr (turned_number 16)))
    go false (inl n) = inl n
    go false (inr (inl n)) = inr (inl n)
    go false (inr (inr n)) = inr (inr (inl n))

-- ---- every table that a call names
turned_right : (n : ℕ) → 0 < n → Right (turned_away n)
unfolding numbered first_holding
turned_right n h = record { no_zero = simp (lt-ltb 0 n h); sound = λ e. absurd (omega arith) }

entries_right : (es : List Entry) → Right (entries_table es)
unfolding numbered
entries_right es = record { no_zero = refl; sound = entries_sound es }

stretch_right : (pairs k : ℕ) (b : List ℕ) → Right (stretch_table pairs k b)
stretch_right pairs k b = go (refusal14 pairs b)
  where
    go : (s : Bool) → Right (cond s (turned_away 14) (entries_table (entries_in (stretch_of k b))))
    go true = turned_right 14 (omega arith)
    go false = entries_right (entries_in (stretch_of k b))

pub own_right : (b : List ℕ) → Right (own_table b)
own_right b = stretch_right 1 0 b

pub shared_right : (firm : ℕ) (b : List ℕ) → Right (shared_table firm b)
shared_right firm b = go (refusal16 firm)
  where
    go : (s : Bool) → Right (cond s (turned_away 16) (stretch_table 2 (firm - 1) b))
    go true = turned_right 16 (omega arith)
    go false = stretch_right 2 (firm - 1) b

pub printed_right : Right printed
unfolding numbered
printed_right = record { no_zero = refl; sound = λ _. printed_sound }

-- no refusal has the number 0
pub above_0 : (r : Refusal) → 0 < number_of r
above_0 OtherLayout = omega arith
above_0 EntryOutside = omega arith
above_0 OtherFirm = omega arith

pub right : (source : Source) → Right (table_of source)
right Printed = printed_right
right (Entries fours) = entries_right (entries_of fours.now)
right (TurnedAway r) = turned_right (number_of r) (above_0 r)
