-- Laws of the order: a table's refusals before a record's; of refusals 10 to 12, what values that passed 1 to 9 give to the spacing rules, and
-- where a fault stands.
use Prim.Native.Nat.{ℕ, zero, suc, ◌+◌, ◌≤◌, ◌<◌, suc-le-suc}
use native.Mathlib.Decide.{ℕ_discrete}
use native.Mathlib.Omega.{arith}
use mathlib.Core.Path.{◌≡◌, refl, sym, ap, ◌∙◌}
use mathlib.Core.List.{List, [], ◌∷◌, ◌++◌, map}
use Rattle.std.specs.Prelude.{Ok, Err}
use mathlib.Core.Bool.{Bool, true, false, cond, not, ◌&&◌, and-eq-true_iff}
use borrow.Author.Tests.{leb-true, eqb-true, eqb-false, not-false, ne_eqb}
use lib.Dec.{leb, ltb, eqb}
use lib.IntN.{ℤ, pos, negsuc, nat_abs}
use Rattle.spacing.specs.Verdict.{Fault}
use Rattle.spacing.specs.Spacing.{Given, too_close, end_too_near, edge_too_near}
use Rattle.spacing.specs.Search.{first_from as searched, partner, first_pair}
use Rattle.spacing.specs.declared.verdict.Fault.{Fault as PlanFault}
use Rattle.spacing.specs.declared.verdict.Fault.TheVariants.{DowelsTooClose, EndTooNear, EdgeTooNear}
use Rattle.spacing.specs.Verdict.{fault, fault_of, told as plan_told, or_else, pair_fault, end_fault, edge_fault, verdict_in, member_verdict, spacing_verdict}
use Rattle.joint.specs.Layout.{values_of}
use Rattle.joint.specs.Order.{holding, tests, position}
use Rattle.numbers.specs.Numbers.{force}
use Rattle.joint.specs.Refusal.{loads_within, fields_within, no_force, script_tests, designer_tests, drill_tests, record_tests}
use Rattle.tables.specs.declared.Refusal.{Refusal as TableRefusal}
use Rattle.tables.specs.Tests.{Test, test, first_holding, numbered}
use Rattle.tables.specs.Table.{Table, table_number, Loaded, Right}
use Rattle.tables.specs.Told.{told as table_told}
use Rattle.tables.proofs.Loading.{above_0}
use Rattle.joint.specs.Refusal.{edge_rule, fault10, fault11, fault12, is_fault, frame, alongs, acrosses, drill_fault}
use Rattle.joint.specs.Refusal.{refusal_number, refusal_of, zero_values, reading_of, outcome, outcome_of}
use Rattle.joint.specs.declared.Values.{Values}
use Rattle.joint.specs.Refusal.{value_tests}
use Rattle.joint.specs.Answer.{Reading}
use Rattle.joint.specs.declared.refusals.Refusal.{Refusal}
use Rattle.joint.specs.declared.refusals.Refusal.TheVariants.{TooFewBytes, OtherVersion, OtherPairCount, PairsAgainstRule, KindsNotOnce, WrongLength, FieldOutside, EmptyOutline, NoForce}
use Rattle.joint.specs.declared.refusals.Unread.{Unread}
use Rattle.joint.specs.declared.refusals.Unread.TheVariants.{Table as TableUnread, Record}
use Rattle.joint.specs.declared.refusals.Rejection.{Rejection}
use Rattle.joint.specs.declared.refusals.Rejection.TheVariants.{Unread as NotRead, Plan}
use Rattle.joint.specs.Told.{number_of, unread_number, reading, fault_in, outcome_in}
use Rattle.joint.proofs.Accepted.{fields_hold}
use Rattle.joint.proofs.Holding.{first_place, place_zero, place_kept, no_number, first_zero, first_kept, both_zero, counts_from, by_place}

-- ---- what 7 and 9 leave
small_force : (z : ℤ) → force z ≡ true → nat_abs z ≤ 1000000
unfolding force
small_force (pos n) h = leb-true n 1000000 h
small_force (negsuc n) h = suc-le-suc (leb-true n 999999 ((and-eq-true_iff (leb n 999999) true).0 h).0)

some_force : (a b : ℕ) → (eqb a 0 && eqb b 0) ≡ false → 0 < a + b
some_force zero zero h = let z : ◌≡◌ {A = ℕ} 0 1 = cc in absurd (omega arith)
some_force zero (suc b) h = omega arith
some_force (suc a) b h = omega arith

pub given : (t : Table) (v : Values) → not (fields_within t v) ≡ false → no_force v.loads ≡ false
    → Given v.dowel.diameter v.loads.fx v.loads.fy v.positions.n
unfolding fields_within loads_within no_force
given t v h g =
    let p = simp and-eq-true_iff at (not-false (fields_within t v) h) in
    let f = fields_hold t v h in
    let s = some_force (nat_abs v.loads.fx) (nat_abs v.loads.fy) g in
    search small_force

-- ---- the first of faults in a row
in_row : List Fault → Fault
in_row [] = fault 0 0 0 0
in_row (f ∷ fs) = or_else f (in_row fs)

-- each fault that is one stands at its place in the order
Placed : ℕ → List Fault → Type 0
Placed k [] = Unit
Placed k (f ∷ fs) = (is_fault f ≡ true → position f ≡ k) × Placed (suc k) fs

row_position : (k : ℕ) (fs : List Fault) → Placed (suc k) fs → position (in_row fs) ≡ first_place (suc k) (map is_fault fs)
unfolding in_row Placed first_place
row_position k [] p = refl
row_position k (f ∷ fs) p = of (eqb f.number 0) refl (row_position (suc k) fs p.1) p.0
  where
    of : (b : Bool) → eqb f.number 0 ≡ b → position (in_row fs) ≡ first_place (suc (suc k)) (map is_fault fs)
        → (is_fault f ≡ true → position f ≡ suc k) → position (in_row (f ∷ fs)) ≡ first_place (suc k) (map is_fault (f ∷ fs))
    of true e ih q = simp e ih
    of false e ih q = simp e (q (simp e))

-- a fault whose number is 0 has no place
Clean : Fault → Type 0
Clean f = f.number ≡ 0 → f ≡ fault 0 0 0 0

or_assoc : (f g h : Fault) → or_else (or_else f g) h ≡ or_else f (or_else g h)
or_assoc f g h = of (eqb f.number 0) refl
  where
    of : (b : Bool) → eqb f.number 0 ≡ b → or_else (or_else f g) h ≡ or_else f (or_else g h)
    of true e = simp e
    of false e = simp e

or_clean : (f g : Fault) → Clean g → Clean (or_else f g)
unfolding Clean
or_clean f g q = of (eqb f.number 0) refl
  where
    of : (b : Bool) → eqb f.number 0 ≡ b → Clean (or_else f g)
    of true e = simp e q
    of false e = simp e (λ z. absurd (eqb-false _ _ e z))

last_clean : (f : Fault) → Clean f → or_else f (fault 0 0 0 0) ≡ f
unfolding Clean
last_clean f q = of (eqb f.number 0) refl
  where
    of : (b : Bool) → eqb f.number 0 ≡ b → or_else f (fault 0 0 0 0) ≡ f
    of true e = simp e (sym (q (eqb-true _ _ e)))
    of false e = simp e

row_clean : (fs : List Fault) → Clean (in_row fs)
unfolding in_row Clean
row_clean [] h = refl
row_clean (f ∷ fs) h = or_clean f (in_row fs) (row_clean fs) h

six : (a b c d e f : Fault) → Clean f → or_else (or_else a (or_else b c)) (or_else d (or_else e f)) ≡ in_row (a ∷ b ∷ c ∷ d ∷ e ∷ f ∷ [])
unfolding in_row
six a b c d e f q =
    or_assoc a (or_else b c) (or_else d (or_else e f))
    ∙ ap (λ (z : Fault). or_else a z) (or_assoc b c (or_else d (or_else e f)))
    ∙ ap (λ (z : Fault). or_else a (or_else b (or_else c (or_else d (or_else e z))))) (sym (last_clean f q))

-- ---- the faults of a member: each is a fault of its number and member, or none
one_clean : (t : Bool) (k m i j : ℕ) → Clean (cond t (fault (suc k) m i j) (fault 0 0 0 0))
unfolding Clean
one_clean true k m i j h = absurd (omega arith)
one_clean false k m i j h = refl

one_placed : (t : Bool) (k m i j p : ℕ) → cond (eqb m 2) (k + 3) k ≡ p → is_fault (cond t (fault k m i j) (fault 0 0 0 0)) ≡ true
    → position (cond t (fault k m i j) (fault 0 0 0 0)) ≡ p
one_placed true k m i j p e h = e
one_placed false k m i j p e h = cc

edge_clean : (k : ℕ) (v : Values) → Clean (fault12 k v)
unfolding fault12 edge_fault Clean
edge_clean k v =
    let i = searched (edge_too_near (edge_rule v.version) (frame k v) v.dowel.diameter (acrosses k v)) 0 v.positions.n in
    one_clean (ltb i v.positions.n) 11 k (i + 1) 0

placed10 : (k p : ℕ) (v : Values) → cond (eqb k 2) 13 10 ≡ p → is_fault (fault10 k v) ≡ true → position (fault10 k v) ≡ p
unfolding fault10 pair_fault
placed10 k p v e =
    let close = too_close (frame k v) v.dowel.diameter (alongs k v) (acrosses k v) in
    let i = first_pair close v.positions.n in
    one_placed (ltb i v.positions.n) 10 k (i + 1) (partner close v.positions.n i + 1) p e

placed11 : (k p : ℕ) (v : Values) → cond (eqb k 2) 14 11 ≡ p → is_fault (fault11 k v) ≡ true → position (fault11 k v) ≡ p
unfolding fault11 end_fault
placed11 k p v e =
    let i = searched (end_too_near (frame k v) v.dowel.diameter (alongs k v)) 0 v.positions.n in
    one_placed (ltb i v.positions.n) 11 k (i + 1) 0 p e

placed12 : (k p : ℕ) (v : Values) → cond (eqb k 2) 15 12 ≡ p → is_fault (fault12 k v) ≡ true → position (fault12 k v) ≡ p
unfolding fault12 edge_fault
placed12 k p v e =
    let i = searched (edge_too_near (edge_rule v.version) (frame k v) v.dowel.diameter (acrosses k v)) 0 v.positions.n in
    one_placed (ltb i v.positions.n) 12 k (i + 1) 0 p e

-- ---- the drill plan
drill_faults : Values → List Fault
drill_faults v = fault10 1 v ∷ fault11 1 v ∷ fault12 1 v ∷ fault10 2 v ∷ fault11 2 v ∷ fault12 2 v ∷ []

drill_row : (v : Values) → drill_fault v ≡ in_row (drill_faults v)
unfolding drill_fault spacing_verdict member_verdict verdict_in fault10 fault11 fault12 drill_faults
drill_row v = six (fault10 1 v) (fault11 1 v) (fault12 1 v) (fault10 2 v) (fault11 2 v) (fault12 2 v) (edge_clean 2 v)

drill_placed : (v : Values) → Placed 10 (drill_faults v)
unfolding drill_faults Placed
drill_placed v = (
  placed10 1 10 v refl,
  (
    placed11 1 11 v refl,
    (
      placed12 1 12 v refl,
      (placed10 2 13 v refl, (placed11 2 14 v refl, (placed12 2 15 v refl, tt))),
    ),
  ),
)

drill_position : (s : List ℕ) → position (drill_fault (values_of s)) ≡ first_place 10 (holding (drill_tests s))
unfolding drill_faults
drill_position s =
    ap position (drill_row (values_of s)) ∙ row_position 9 (drill_faults (values_of s)) (drill_placed (values_of s))

drill_none : (v : Values) → (drill_fault v).number ≡ 0 → drill_fault v ≡ fault 0 0 0 0
unfolding Clean
drill_none v h = drill_row v ∙ row_clean (drill_faults v) (rw drill_row at h)

-- ---- the whole order
pub by_number : (t : Table) (s : List ℕ) → first_holding (record_tests t s) ≡ first_place 1 (holding (record_tests t s))
unfolding counts_from
by_number t s = by_place 1 (record_tests t s) refl

-- a table that did not load refuses the record, whatever it is
pub table_first : (t : Table) (s : List ℕ) → (Loaded t → ⊥) → refusal_number t s ≡ table_number t
unfolding refusal_number
table_first t s f = first_kept t.tests (record_tests t s) f

pub not_loaded : (t : Table) (s : List ℕ) → (Loaded t → ⊥) → refusal_of t s ≡ fault (table_number t) 0 0 0
unfolding refusal_of
not_loaded t s f = let e = table_first t s f in simp (e, ne_eqb (table_number t) 0 f)

pub not_read : (t : Table) (s : List ℕ) → (Loaded t → ⊥) → reading_of t s ≡ record { number = table_number t; values = zero_values }
unfolding reading_of
not_read t s f = let e = table_first t s f in simp (e, ne_eqb (table_number t) 0 f)

-- by a table that loads, the record's own tests decide
module _ (t : Table) (r : Right t) where
  pub unrefused : (s : List ℕ) → refusal_number t s ≡ 0 → Loaded t × (first_holding (record_tests t s) ≡ 0)
  unfolding refusal_number
  unrefused s h = both_zero t.tests (record_tests t s) r.no_zero h

  pub number_of_record : Loaded t → (s : List ℕ) → refusal_number t s ≡ first_holding (record_tests t s)
  unfolding refusal_number
  number_of_record l s = first_zero t.tests (record_tests t s) r.no_zero l

  pub position_first : Loaded t → (s : List ℕ) → position (refusal_of t s) ≡ first_place 1 (holding (tests t s))
  unfolding refusal_of
  position_first l s = of (eqb (refusal_number t s) 0) refl
    where
      is_place : refusal_number t s ≡ first_place 1 (holding (record_tests t s))
      is_place = number_of_record l s ∙ by_number t s

      of : (b : Bool) → eqb (refusal_number t s) 0 ≡ b → position (refusal_of t s) ≡ first_place 1 (holding (tests t s))
      of true e =
          simp e
          (drill_position s
          ∙ sym
          (place_zero 0 10 (holding (record_tests t s)) (holding (drill_tests s)) (sym is_place ∙ eqb-true _ _ e) refl))
      of false e =
          simp e
          (is_place
          ∙ sym (place_kept 0 (holding (record_tests t s)) (holding (drill_tests s)) (λ z. eqb-false _ _ e (is_place ∙ z))))

-- the first fault of a row gives its number
Numbered : List ℕ → List Fault → Type 0
Numbered ks [] = Unit
Numbered [] (f ∷ fs) = ⊥
Numbered (k ∷ ks) (f ∷ fs) = (is_fault f ≡ true → f.number ≡ k) × Numbered ks fs

fault_tests : List ℕ → List Fault → List Test
fault_tests ks [] = []
fault_tests [] (f ∷ fs) = []
fault_tests (k ∷ ks) (f ∷ fs) = test k (is_fault f) ∷ fault_tests ks fs

row_number : (ks : List ℕ) (fs : List Fault) → Numbered ks fs → (in_row fs).number ≡ first_holding (fault_tests ks fs)
unfolding in_row Numbered fault_tests first_holding
row_number ks [] p = refl
row_number [] (f ∷ fs) p = absurd p
row_number (k ∷ ks) (f ∷ fs) p = of (eqb f.number 0) refl (row_number ks fs p.1) p.0
  where
    of : (b : Bool) → eqb f.number 0 ≡ b → (in_row fs).number ≡ first_holding (fault_tests ks fs) → (is_fault f ≡ true → f.number ≡ k)
        → (in_row (f ∷ fs)).number ≡ first_holding (fault_tests (k ∷ ks) (f ∷ fs))
    of true e ih q = simp e ih
    of false e ih q = simp e (q (simp e))

one_numbered : (t : Bool) (k m i j : ℕ) → is_fault (cond t (fault k m i j) (fault 0 0 0 0)) ≡ true
    → (cond t (fault k m i j) (fault 0 0 0 0)).number ≡ k
one_numbered true k m i j h = refl
one_numbered false k m i j h = cc

numbered10 : (k : ℕ) (v : Values) → is_fault (fault10 k v) ≡ true → (fault10 k v).number ≡ 10
unfolding fault10 pair_fault
numbered10 k v =
    let close = too_close (frame k v) v.dowel.diameter (alongs k v) (acrosses k v) in
    let i = first_pair close v.positions.n in
    one_numbered (ltb i v.positions.n) 10 k (i + 1) (partner close v.positions.n i + 1)

numbered11 : (k : ℕ) (v : Values) → is_fault (fault11 k v) ≡ true → (fault11 k v).number ≡ 11
unfolding fault11 end_fault
numbered11 k v =
    let i = searched (end_too_near (frame k v) v.dowel.diameter (alongs k v)) 0 v.positions.n in
    one_numbered (ltb i v.positions.n) 11 k (i + 1) 0

numbered12 : (k : ℕ) (v : Values) → is_fault (fault12 k v) ≡ true → (fault12 k v).number ≡ 12
unfolding fault12 edge_fault
numbered12 k v =
    let i = searched (edge_too_near (edge_rule v.version) (frame k v) v.dowel.diameter (acrosses k v)) 0 v.positions.n in
    one_numbered (ltb i v.positions.n) 12 k (i + 1) 0

drill_number : (s : List ℕ) → (drill_fault (values_of s)).number ≡ first_holding (drill_tests s)
unfolding drill_faults Numbered fault_tests
drill_number s =
    let v = values_of s in
    ap (λ (f : Fault). f.number) (drill_row v)
    ∙ row_number (10 ∷ 11 ∷ 12 ∷ 10 ∷ 11 ∷ 12 ∷ []) (drill_faults v)
    (numbered10 1 v, (numbered11 1 v, (numbered12 1 v, (numbered10 2 v, (numbered11 2 v, (numbered12 2 v, tt))))))

-- of all tests, the table's before the record's, the first that holds gives its number
module _ (t : Table) (r : Right t) (s : List ℕ) where
  record_first : Loaded t → (b : Bool) → eqb (refusal_number t s) 0 ≡ b → (refusal_of t s).number ≡ first_holding (tests t s)
  unfolding refusal_of numbered
  record_first l true e =
      simp e
      (drill_number s ∙ sym (first_zero (record_tests t s) (drill_tests s) refl (sym (number_of_record t r l s) ∙ eqb-true _ _ e)))
  record_first l false e =
      simp e
      (number_of_record t r l s
      ∙ sym (first_kept (record_tests t s) (drill_tests s) (λ z. eqb-false _ _ e (number_of_record t r l s ∙ z))))

  pub number_first : (refusal_of t s).number ≡ first_holding (t.tests ++ tests t s)
  number_first = go (ℕ_discrete (table_number t) 0)
    where
      go : Dec (Loaded t) → (refusal_of t s).number ≡ first_holding (t.tests ++ tests t s)
      go (yes l) = record_first l (eqb (refusal_number t s) 0) refl ∙ sym (first_zero t.tests (tests t s) r.no_zero l)
      go (no f) = ap (λ (z : Fault). z.number) (not_loaded t s f) ∙ sym (first_kept t.tests (tests t s) f)

pub outcome_accepted : (t : Table) (s : List ℕ) (f : Fault) → f ≡ drill_fault (values_of s) → refusal_number t s ≡ 0 → f.number ≡ 0
    → record { number = 0; member = 0; first = 0; second = 0; values = values_of s } ≡ outcome_of t s
unfolding outcome_of outcome refusal_of
outcome_accepted t s f e h g = simp (h, drill_none (values_of s) (ap (λ (z : Fault). z.number) (sym e) ∙ g))

-- ---- no refusal has the number 0
pub numbered_from_1 : (r : Refusal) → number_of r ≡ 0 → ⊥
numbered_from_1 TooFewBytes h = omega arith
numbered_from_1 OtherVersion h = omega arith
numbered_from_1 OtherPairCount h = omega arith
numbered_from_1 PairsAgainstRule h = omega arith
numbered_from_1 KindsNotOnce h = omega arith
numbered_from_1 WrongLength h = omega arith
numbered_from_1 FieldOutside h = omega arith
numbered_from_1 EmptyOutline h = omega arith
numbered_from_1 NoForce h = omega arith

pub unread_from_1 : (r : Unread) → unread_number r ≡ 0 → ⊥
unread_from_1 (TableUnread r) h = let p = above_0 r in omega arith
unread_from_1 (Record r) h = numbered_from_1 r h

pub rejected : (r : Rejection) → (fault_in r).number ≡ 0 → ⊥
rejected (NotRead r) h = unread_from_1 r h
rejected (Plan (DowelsTooClose m i j)) h = omega arith
rejected (Plan (EndTooNear m i)) h = omega arith
rejected (Plan (EdgeTooNear m i)) h = omega arith

-- ---- what reading answers, by what its stages answered
module _ (t : Table) (s : List ℕ) where
  -- a refusal's number
  unread : (r : Unread) → unread_number r ≡ refusal_number t s → reading (Err r) ≡ reading_of t s
  unfolding reading_of
  unread r e = simp (← e, ne_eqb (unread_number r) 0 (unread_from_1 r))

  pub refused_table : (r : TableRefusal) → table_told (Err r) ≡ table_number t → reading (Err (TableUnread r)) ≡ reading_of t s
  refused_table r e = unread (TableUnread r) (e ∙ sym (table_first t s (λ l. unread_from_1 (TableUnread r) (e ∙ l))))

  module _ (right : Right t) (loads : table_told (Ok tt) ≡ table_number t) where
    pub refused_layout : (r : Refusal) → number_of r ≡ first_holding (script_tests s) → reading (Err (Record r)) ≡ reading_of t s
    refused_layout r e =
        unread (Record r)
        (e
        ∙ sym
        (number_of_record t right (sym loads) s
        ∙ first_kept (script_tests s) (designer_tests t s) (λ z. numbered_from_1 r (e ∙ z))))

    module _ (e : 0 ≡ first_holding (script_tests s)) {v : Values} (w : v ≡ values_of s) where
      number_is : refusal_number t s ≡ first_holding (value_tests t v)
      unfolding numbered
      number_is = number_of_record t right (sym loads) s ∙ rw w (first_zero (script_tests s) (designer_tests t s) refl (sym e))

      pub refused_values : (r : Refusal) → number_of r ≡ first_holding (value_tests t v) → reading (Err (Record r)) ≡ reading_of t s
      refused_values r g = unread (Record r) (g ∙ sym number_is)

      pub read_whole : 0 ≡ first_holding (value_tests t v) → reading (Ok v) ≡ reading_of t s
      unfolding reading_of
      read_whole g = simp (number_is ∙ sym g, w)

-- ---- the outcome, by what reading answered
module _ (t : Table) (s : List ℕ) where
  pub refused_reading : (r : Unread) → reading (Err r) ≡ reading_of t s → outcome_in (Err (NotRead r)) ≡ outcome_of t s
  unfolding reading_of outcome_of outcome refusal_of
  refused_reading r e =
      let n : unread_number r ≡ refusal_number t s = ap (λ (z : Reading). z.number) e in
      simp (← n, ne_eqb (unread_number r) 0 (unread_from_1 r))

  module _ {v : Values} (e : reading (Ok v) ≡ reading_of t s) where
    none_numbered : refusal_number t s ≡ 0
    unfolding reading_of
    none_numbered = sym (ap (λ (z : Reading). z.number) e)

    values_are : v ≡ values_of s
    unfolding reading_of
    values_are = ap (λ (z : Reading). z.values) e ∙ simp none_numbered

    pub drill_given : Right t → Given v.dowel.diameter v.loads.fx v.loads.fy v.positions.n
    unfolding numbered
    drill_given right =
        let n = no_number (record_tests t s) refl (unrefused t right s none_numbered).1 in
        rw values_are (given t (values_of s) (n.none 6) (n.none 8))

    pub refused_plan : (f : PlanFault) → plan_told (Err f) ≡ drill_fault v → outcome_in (Err (Plan f)) ≡ outcome_of t s
    unfolding outcome_of outcome refusal_of
    refused_plan f d = simp (none_numbered, ← values_are, ← d, ne_eqb (fault_of f).number 0 (rejected (Plan f)))

    pub accepted : plan_told (Ok tt) ≡ drill_fault v → outcome_in (Ok v) ≡ outcome_of t s
    unfolding outcome_of outcome refusal_of
    accepted d = simp (none_numbered, ← values_are, ← d)
