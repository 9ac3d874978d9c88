-- The writer's answer, by what its tests found one after the other.
use Prim.Native.Nat.{ℕ, ◌+◌, ◌*◌, ◌≤◌, ◌<◌}
use mathlib.Core.Path.{◌≡◌, refl, sym, ◌∙◌}
use mathlib.Core.List.{List, [], ◌∷◌, ◌++◌}
use mathlib.Core.Bool.{Bool, true, false, not, ◌&&◌, false≢true, and-eq-true_iff}
use native.Mathlib.Omega.{arith}
use borrow.Author.Tests.{lt-ltb, le-ltb, eq-eqb, ne_eqb, eqb-true, not-false, not-true}
use lib.Dec.{ltb}
use lib.ListN.{length, drop}
use lib.IntN.{ℤ, nat_abs}
use Rattle.joint.specs.declared.Values.{Values}
use Rattle.joint.specs.Layout.{bytes_of}
use Rattle.tables.specs.declared.Refusal.{Refusal as TableRefusal}
use Rattle.tables.specs.Tests.{Test, test, first_holding, numbered}
use Rattle.tables.specs.Table.{Table, table_number, Loaded, Right}
use Rattle.tables.specs.Told.{told as table_told}
use Rattle.joint.specs.Refusal.{fields_within, value_tests}
use Rattle.std.specs.Prelude.{Some, None, Ok, Err}
use Rattle.joint.specs.declared.refusals.Refusal.{Refusal}
use Rattle.joint.specs.declared.refusals.Refusal.TheVariants.{OtherVersion, FieldOutside}
use Rattle.joint.specs.Told.{number_of as record_number}
use Rattle.joint.specs.declared.refusals.Unread.TheVariants.{Table as TableUnread}
use Rattle.joint.proofs.Faults.{numbered_from_1 as record_numbered, unread_from_1}
use Rattle.joint.proofs.Holding.{first_zero, first_kept}
use Rattle.joint.proofs.Tests.{lacking, having}
use Rattle.writer.specs.declared.Fields.{Fields}
use Rattle.writer.specs.declared.Unwritten.{Unwritten}
use Rattle.writer.specs.declared.Unwritten.TheVariants.{Table as OfTable, Values as OfValues, BufferTooShort}
use Rattle.writer.specs.Told.{number_of, told}
use Rattle.writer.specs.Write.{values_from, version_unknown, fields_unsigned, lists_alike, own_tests, writer_number, written_of, buffer_after, Wrote}
use Rattle.put.specs.Front.{Room}
use Rattle.writer.specs.Working.{fields_fit, fitting}
use Rattle.put.proofs.Lengths.{bytes_length}
use Rattle.writer.proofs.Fitting.{fields_within_lem, lists_within, fields_unsigned_lem}

-- no refusal has the number 0
numbered_from_1 : (r : Unwritten) → number_of r ≡ 0 → ⊥
numbered_from_1 (OfTable r) h = unread_from_1 (TableUnread r) h
numbered_from_1 (OfValues r) h = record_numbered r h
numbered_from_1 BufferTooShort h = omega arith

module _ (t : Table) (f : Fields) (x y : List ℤ) (s : List ℕ) where
  abbrev v : Values
  v = values_from f x y

  abbrev last : Test
  last = test 13 (ltb (length s) (length (bytes_of v)))

  length_is : 78 + 8 * length x ≡ length (bytes_of v)
  unfolding values_from
  length_is = sym (bytes_length v)

  -- ---- a refusal leaves the buffer as it is
  turned_away : (r : Unwritten) → number_of r ≡ writer_number t f x y (length s) → Wrote t f x y s s (told (Err r))
  unfolding written_of buffer_after
  turned_away r k = let h = ne_eqb (number_of r) 0 (numbered_from_1 r) in record { answer = simp (← k, h); buffer = simp (← k, h) }

  -- ---- a table that did not load
  pub not_written : (Loaded t → ⊥) → Wrote t f x y s s (record { number = table_number t; length = 0 })
  unfolding writer_number written_of buffer_after
  not_written h =
      let e = first_kept t.tests (own_tests t f x y (length s)) h in
      let k = ne_eqb (table_number t) 0 h in
      record { answer = simp (e, k); buffer = simp (e, k) }

  pub table_refused : (r : TableRefusal) → table_told (Err r) ≡ table_number t → Wrote t f x y s s (told (Err (OfTable r)))
  unfolding writer_number
  table_refused r e =
      turned_away (OfTable r) (e ∙ sym (first_kept t.tests (own_tests t f x y (length s)) (λ l. numbered_from_1 (OfTable r) (e ∙ l))))

  -- ---- by one that loads: 2
  module _ (right : Right t) (loads : table_told (Ok tt) ≡ table_number t) where
    own_number : writer_number t f x y (length s) ≡ first_holding (own_tests t f x y (length s))
    unfolding writer_number
    own_number = first_zero t.tests (own_tests t f x y (length s)) right.no_zero (sym loads)

    pub version_refused : None ≡ fitting (not (version_unknown f)) (nat_abs f.version) → Wrote t f x y s s (told (Err (OfValues OtherVersion)))
    unfolding own_tests first_holding
    version_refused e = turned_away (OfValues OtherVersion) (sym (own_number ∙ simp (not-false (version_unknown f) (lacking _ e))))

    module _ {version : ℕ} (e : Some version ≡ fitting (not (version_unknown f)) (nat_abs f.version)) where
      known : version_unknown f ≡ false
      known = not-true (version_unknown f) (having e).0

      -- ---- 7 by the lists, or by a number that its field cannot hold: the reader's test would find it too
      outside :
          ((fields_unsigned f && lists_alike x y) ≡ true → fields_within t v ≡ true → ⊥)
          → Wrote t f x y s s (told (Err (OfValues FieldOutside)))
      unfolding own_tests first_holding
      outside h = turned_away (OfValues FieldOutside) (seven (fields_unsigned f && lists_alike x y) (fields_within t v) refl refl)
        where
          seven : (a b : Bool) → (fields_unsigned f && lists_alike x y) ≡ a → fields_within t v ≡ b → 7 ≡ writer_number t f x y (length s)
          seven false b i j = sym (own_number ∙ simp (known, i))
          seven true false i j = sym (own_number ∙ simp (known, i, j))
          seven true true i j = absurd (h i j)

      abbrev unsigned : (fields_unsigned f && lists_alike x y) ≡ true → (fields_unsigned f ≡ true) × (lists_alike x y ≡ true)
      unsigned i = (and-eq-true_iff (fields_unsigned f) (lists_alike x y)).0 i

      pub lists_differ : (length y ≡ length x → ⊥) → Wrote t f x y s s (told (Err (OfValues FieldOutside)))
      lists_differ h = outside (λ i j. h (sym (eqb-true (length x) (length y) (unsigned i).1)))

      pub lists_long : 64 < length x → Wrote t f x y s s (told (Err (OfValues FieldOutside)))
      lists_long h = outside (λ i j. let l = lists_within t (right.sound (sym loads)) f x y (unsigned i).0 j in omega arith)

      pub fields_refused : None ≡ fitting (fields_fit f) v → Wrote t f x y s s (told (Err (OfValues FieldOutside)))
      fields_refused h =
          outside (λ i j. false≢true (sym (lacking _ h) ∙ fields_within_lem t (right.sound (sym loads)) f x y (unsigned i).0 j))

      -- ---- what these tests leave
      module _ (same : length y ≡ length x) (few : length x ≤ 64) {w : Values} (g : Some w ≡ fitting (fields_fit f) v) where
        is : w ≡ v
        is = (having g).1

        left : writer_number t f x y (length s) ≡ first_holding (value_tests t w ++ last ∷ [])
        unfolding own_tests first_holding
        left = own_number ∙ rw is (simp (known, fields_unsigned_lem f (having g).0, eq-eqb (length x) (length y) (sym same)))

        -- ---- 7 to 9, by the reader's tests
        pub values_refused : (r : Refusal) → record_number r ≡ first_holding (value_tests t w) → Wrote t f x y s s (told (Err (OfValues r)))
        values_refused r k =
            turned_away (OfValues r) (k ∙ sym (left ∙ first_kept (value_tests t w) (last ∷ []) (λ z. record_numbered r (k ∙ z))))

        -- ---- 13, or the record
        module _ (k : 0 ≡ first_holding (value_tests t w)) where
          last_test : writer_number t f x y (length s) ≡ first_holding (last ∷ [])
          unfolding numbered
          last_test = left ∙ first_zero (value_tests t w) (last ∷ []) refl (sym k)

          pub buffer_refused : length s < 78 + 8 * length x → Wrote t f x y s s (told (Err BufferTooShort))
          unfolding first_holding
          buffer_refused l = turned_away BufferTooShort (sym (last_test ∙ simp (lt-ltb (length s) (length (bytes_of v)) (rw length_is at l))))

          module _ (l : 78 + 8 * length x ≤ length s) where
            none : writer_number t f x y (length s) ≡ 0
            unfolding first_holding
            none = last_test ∙ simp (le-ltb (length s) (length (bytes_of v)) (rw length_is at l))

            pub put_given : Room w.positions.n (length s)
            unfolding values_from
            put_given = rw is (record { dowels = few; enough = l })

            pub written : {a : List ℕ} → a ≡ bytes_of w ++ drop (length (bytes_of w)) s → Wrote t f x y s a (told (Ok (78 + 8 * length x)))
            unfolding written_of buffer_after
            written e = record { answer = simp (none, length_is); buffer = e ∙ simp (none, is) }
