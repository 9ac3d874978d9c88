-- Laws of entries: the next one of a stretch of bytes, and what is found at a code.
use Prim.Native.Nat.{ℕ, suc, ◌+◌, ◌/◌, ◌≤◌, ◌<◌}
use Rattle.std.specs.Simd.{first_chunks}
use native.Mathlib.Omega.{arith}
use mathlib.Core.Path.{◌≡◌, refl, sym, ap, ◌∙◌}
use mathlib.Core.Bool.{Bool, true, false, ◌&&◌}
use mathlib.Core.List.{List, [], ◌∷◌, map}
use lib.Dec.{eqb, ltb}
use lib.ListN.{length, get_or, drop}
use Rattle.std.specs.Prelude.{Option, Some, None, find, option_map, option_and_then, MatchOption, IsSomeAnd}
use Rattle.codes.specs.declared.Wood.{Wood}
use Rattle.codes.specs.Tables.{lookup}
use Rattle.tables.specs.declared.entry.Entry.{Entry}
use lib.Seq.{drop-cons}
use Rattle.std.proofs.Math.ListN.{drop_of_length-le}
use Rattle.tables.specs.Entries.{entry_within, rise, entry_at, entries_in, entries_of, class_of, line_of}

-- four bytes to each entry
chunks : (s : List ℕ) → entries_of (first_chunks 4 (length s / 4) s) ≡ entries_in s
unfolding entries_in
chunks [] = refl
chunks (a ∷ []) = refl
chunks (a ∷ b ∷ []) = refl
chunks (a ∷ b ∷ c ∷ []) = refl
chunks (a ∷ b ∷ c ∷ d ∷ s) =
    let n : length (a ∷ b ∷ c ∷ d ∷ s) / 4 ≡ suc (length s / 4) = omega arith in
    rw n (ap (λ (l : List Entry). entry_at (a ∷ b ∷ c ∷ d ∷ []) 0 ∷ l) (chunks s))

pub in_fours : (s : List ℕ) {l : List (List ℕ)} → l ≡ first_chunks 4 (length s / 4) s → entries_of l ≡ entries_in s
in_fours s e = ap entries_of e ∙ chunks s

-- where the entries from number i on rise
pub rises : (l : List (List ℕ)) (before i : ℕ) → i < length l
    → rise before (entries_of (drop i l))
    ≡ (entry_within (entry_at (get_or l i []) 0) && ltb before (entry_at (get_or l i []) 0).code
    && rise (entry_at (get_or l i []) 0).code (entries_of (drop (i + 1) l)))
unfolding rise
rises l before i h = let e : i + 1 ≡ suc i = omega arith in rw e (ap (λ (m : List (List ℕ)). rise before (entries_of m)) (drop-cons l i [] h))

pub risen : (l : List (List ℕ)) (before i : ℕ) → length l ≤ i → rise before (entries_of (drop i l)) ≡ true
unfolding rise
risen l before i h = ap (λ (m : List (List ℕ)). rise before (entries_of m)) (drop_of_length-le l h)

-- the first entry of a code says what the table has there
looked_up : (code : ℕ) (es : List Entry) → lookup None (map line_of es) code ≡ option_and_then class_of (find (λ e. eqb code e.code) es)
looked_up code [] = refl
looked_up code (e ∷ es) = go (eqb code e.code) refl (looked_up code es)
  where
    go : (b : Bool) → eqb code e.code ≡ b → lookup None (map line_of es) code ≡ option_and_then class_of (find (λ e. eqb code e.code) es)
        → lookup None (map line_of (e ∷ es)) code ≡ option_and_then class_of (find (λ e. eqb code e.code) (e ∷ es))
    go true h later = simp h
    go false h later = simp h later

pub found : (code : ℕ) (es : List Entry) (r : Option Entry) (w : Option Wood) → option_map (λ e. e) r ≡ find (λ e. eqb code e.code) es
    → MatchOption r (w ≡ None) (λ e. IsSomeAnd w (λ x. Some x ≡ class_of e)) → w ≡ lookup None (map line_of es) code
found code es None w q m = m ∙ ap (option_and_then class_of) q ∙ sym (looked_up code es)
found code es (Some e) (Some x) q m = m ∙ ap (option_and_then class_of) q ∙ sym (looked_up code es)
found code es (Some e) None q m = absurd m
