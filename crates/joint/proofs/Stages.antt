-- Laws of the stages of reading: what each one's answer says of the tests, and what the tests leave for the next.
use Prim.Native.Nat.{ℕ, zero, suc, ◌+◌, ◌*◌, ◌≤◌, ◌<◌, ◌-◌}
use native.Mathlib.Omega.{arith}
use native.Mathlib.Nat.{add-zero, add-sub_cancel_left}
use native.Mathlib.Numerals.{add-one}
use mathlib.Core.Path.{◌≡◌, refl, sym, ap, ◌∙◌}
use mathlib.Core.List.{List}
use Rattle.std.specs.Prelude.{Some, None}
use mathlib.Core.Bool.{Bool, true, false, cond, not, ◌&&◌, ◌||◌, false≢true, and-false, and-eq-true_iff}
use lib.Dec.{eqb, leb, lit≤}
use lib.ListN.{length, get_or, take, drop, replicate, length-drop}
use lib.Seq.{length-take-le, get_or-take, get_or-drop}
use borrow.Author.Tests.{lt-ltb, le-ltb, ltb-false, eq-eqb, ne_eqb, eqb-true, not-false}
use Rattle.numbers.specs.Numbers.{u8_at, u16_at}
use Rattle.codes.specs.Tables.{is_version}
use Rattle.chain.specs.declared.Width.TheVariants.{Two}
use Rattle.chain.specs.Chain.{number_at, offset_of, length_of, bound, chained, Read}
use Rattle.chain.proofs.Laws.{filled_at, follow, inside}
use Rattle.tables.specs.Tests.{first_holding, numbered}
use Rattle.joint.specs.Layout.{version, pair_count, pair_offset, pair_length, pair_sum, part_of_pair, kind_of_pair, pair_of_kind, part_of_kind}
use Rattle.joint.specs.Layout.{members_in, dowel_in, positions_in, loads_in, values_of}
use Rattle.joint.specs.Refusal.{refusal1, refusal2, refusal3, refusal4, refusal5, refusal6, positions_length, one_if, once, script_tests}
use Rattle.joint.specs.Stage.{Parted, Bounded, present, part_at, found, parts_of, all_found, sized, Stretch, LaidOut}
use Rattle.joint.specs.Told.{kind_code}
use Rattle.joint.specs.declared.places.Kind.{Kind}
use Rattle.joint.specs.declared.places.Kind.TheVariants.{Members as MembersKind, Dowel as DowelKind, Positions as PositionsKind, Loads as LoadsKind}
use Rattle.joint.specs.declared.Members.{Members}
use Rattle.joint.specs.declared.Dowel.{Dowel}
use Rattle.joint.specs.declared.Positions.{Positions}
use Rattle.joint.specs.declared.Loads.{Loads}
use Rattle.joint.specs.declared.layout.Part.{Part}
use Rattle.joint.specs.declared.layout.Parts.{Parts}
use Rattle.joint.proofs.Holding.{no_number}
use Rattle.joint.proofs.Tests.{equal, unequal, lacking, having}

-- ---- refusal 4: what a right chain says of its parts
offset_is : (s : List ℕ) (k : ℕ) → offset_of Two s 4 k ≡ pair_offset s (suc k)
unfolding number_at
offset_is s k = ap (u16_at s) (omega arith)

length_is : (s : List ℕ) (k : ℕ) → length_of Two s 4 k ≡ pair_length s (suc k)
unfolding number_at
length_is s k = ap (u16_at s) (omega arith)

sum_is : (s : List ℕ) (k : ℕ) → bound Two s 4 20 (suc k) ≡ pair_sum s (suc k)
unfolding bound
sum_is s k = rw (offset_is s k, length_is s k)

pub parted : (s : List ℕ) → refusal4 s ≡ false → Parted s
unfolding refusal4
parted s h =
    let right = not-false (chained Two s 4 20 4) h in
    record {
      some = λ k l. rw (length_is s k) at (follow Two s 4 20 4 right k l).some;
      inside = λ k l. rw (sum_is s k) at (inside Two s 4 20 4 right (suc k) (omega arith));
    }

module _ {s bounds : List ℕ} {b : Bool} (e : Read Two s 4 20 4 (replicate 5 0) bounds b) where
  four : not b ≡ refusal4 s
  unfolding refusal4
  four = rw e.whole

  pub bounded : b ≡ true → Bounded s bounds
  bounded h =
      let at = filled_at (bound Two s 4 20) (replicate 5 0) in
      record {
        parted = parted s (sym four ∙ ap not h);
        start = λ k l.
            rw e.bounds (at k 5 (omega arith) (omega arith) ∙ sym (follow Two s 4 20 4 (sym e.whole ∙ h) k l).start ∙ offset_is s k);
        end = λ k l. rw e.bounds (at (suc k) 5 (omega arith) (omega arith) ∙ sum_is s k);
      }

-- ---- refusal 5
module _ (s : List ℕ) (kind : ℕ) where
  found_at : (k : ℕ) → k < 4 → ((j : ℕ) → j < k → kind_of_pair s (suc j) ≡ kind → ⊥) → kind_of_pair s (suc k) ≡ kind
      → Some (part_at s (suc k)) ≡ found s kind
  unfolding found present pair_of_kind
  found_at zero l f e = simp (eq-eqb _ _ e)
  found_at (suc zero) l f e = simp (ne_eqb _ _ (f 0 (omega arith)), eq-eqb _ _ e)
  found_at (suc (suc zero)) l f e = simp (ne_eqb _ _ (f 0 (omega arith)), ne_eqb _ _ (f 1 (omega arith)), eq-eqb _ _ e)
  found_at (suc (suc (suc zero))) l f e =
      simp (ne_eqb _ _ (f 0 (omega arith)), ne_eqb _ _ (f 1 (omega arith)), ne_eqb _ _ (f 2 (omega arith)), eq-eqb _ _ e)
  found_at (suc (suc (suc (suc k)))) l f e = absurd (omega arith)

  found_nowhere : ((j : ℕ) → j < 4 → kind_of_pair s (suc j) ≡ kind → ⊥) → None ≡ found s kind
  unfolding found present
  found_nowhere f = simp (
    ne_eqb _ _ (f 0 (omega arith)),
    ne_eqb _ _ (f 1 (omega arith)),
    ne_eqb _ _ (f 2 (omega arith)),
    ne_eqb _ _ (f 3 (omega arith)),
  )

module _ {s bounds : List ℕ} (b : Bounded s bounds) where
  -- the first byte of part k
  abbrev pub kind_at : ℕ → ℕ
  kind_at k = get_or s (get_or bounds k 0) 0

  kind_at_lem : (k : ℕ) → k < 4 → kind_of_pair s (suc k) ≡ kind_at k
  unfolding part_of_pair
  kind_at_lem k l = get_or-take _ _ 0 0 (b.parted.some k l) ∙ get_or-drop (pair_offset s (suc k)) s 0 0 ∙ rw (add-zero, b.start k l)

  pub part_found : {kind k : ℕ} → k < 4 → ((j : ℕ) → j < k → kind_at j ≡ kind → ⊥) → kind_at k ≡ kind
      → Some (record { start = get_or bounds k 0; bytes = get_or bounds (k + 1) 0 - get_or bounds k 0 }) ≡ found s kind
  unfolding part_at
  part_found {kind} {k} l f e =
      rw (add-one, b.start k l, b.end k l, add-sub_cancel_left)
      (found_at s kind k l (λ j g. rw (kind_at_lem j (omega arith)) (f j g)) (kind_at_lem k l ∙ e))

  pub part_nowhere : {kind : ℕ} → ((j : ℕ) → j < 4 → kind_at j ≡ kind → ⊥) → None ≡ found s kind
  part_nowhere {kind} f = found_nowhere s kind (λ j l. rw (kind_at_lem j l) (f j l))

-- how often a kind occurs
count : List ℕ → ℕ → ℕ
count s kind =
    one_if (eqb (kind_of_pair s 1) kind) + one_if (eqb (kind_of_pair s 2) kind)
    + one_if (eqb (kind_of_pair s 3) kind) + one_if (eqb (kind_of_pair s 4) kind)

some_of : (a b c d : Bool) → (a || b || c || d) ≡ true → 1 ≤ one_if a + one_if b + one_if c + one_if d
unfolding one_if
some_of true b c d h = omega arith
some_of false true c d h = omega arith
some_of false false true d h = omega arith
some_of false false false true h = lit≤ tt
some_of false false false false h = absurd (false≢true h)

none_of : (a b c d : Bool) → (a || b || c || d) ≡ false → (a ≡ false) × (b ≡ false) × (c ≡ false) × (d ≡ false)
none_of true b c d h = absurd (false≢true (sym h))
none_of false true c d h = absurd (false≢true (sym h))
none_of false false true d h = absurd (false≢true (sym h))
none_of false false false d h = (refl, refl, refl, h)

-- a part is of one kind at most
pub one_kind : (x : ℕ) → one_if (eqb x 1) + one_if (eqb x 2) + one_if (eqb x 3) + one_if (eqb x 4) ≤ 1
unfolding one_if
one_kind zero = lit≤ tt
one_kind (suc zero) = lit≤ tt
one_kind (suc (suc zero)) = lit≤ tt
one_kind (suc (suc (suc zero))) = lit≤ tt
one_kind (suc (suc (suc (suc zero)))) = lit≤ tt
one_kind (suc (suc (suc (suc (suc x))))) =
    let y = suc (suc (suc (suc (suc x)))) in
    simp (ne_eqb y 1 (λ e. omega arith), ne_eqb y 2 (λ e. omega arith), ne_eqb y 3 (λ e. omega arith), ne_eqb y 4 (λ e. omega arith)) (lit≤ tt)

-- four kinds in four parts are there once each
module _ (s : List ℕ) where
  counted : (kind : ℕ) → present s kind ≡ true → 1 ≤ count s kind
  unfolding present count
  counted kind = some_of (eqb (kind_of_pair s 1) kind) _ _ _

  missing : (kind : ℕ) → present s kind ≡ false → once s kind ≡ false
  unfolding present once one_if
  missing kind h = let n = none_of (eqb (kind_of_pair s 1) kind) _ _ _ h in simp (n.0, n.1, n.2, n.3)

  all_once : 1 ≤ count s 1 → 1 ≤ count s 2 → 1 ≤ count s 3 → 1 ≤ count s 4 → refusal5 s ≡ false
  unfolding refusal5 once count
  all_once a b c d =
      let k1 = one_kind (kind_of_pair s 1) in
      let k2 = one_kind (kind_of_pair s 2) in
      let k3 = one_kind (kind_of_pair s 3) in
      let k4 = one_kind (kind_of_pair s 4) in
      simp (
        eq-eqb (count s 1) 1 (omega arith),
        eq-eqb (count s 2) 1 (omega arith),
        eq-eqb (count s 3) 1 (omega arith),
        eq-eqb (count s 4) 1 (omega arith),
      )

  kinds_test : (a b c d : Bool) → present s 1 ≡ a → present s 2 ≡ b → present s 3 ≡ c → present s 4 ≡ d
      → refusal5 s ≡ (not a || not b || not c || not d)
  unfolding refusal5
  kinds_test true true true true e f g h = all_once (counted 1 e) (counted 2 f) (counted 3 g) (counted 4 h)
  kinds_test false b c d e f g h = simp (missing 1 e)
  kinds_test true false c d e f g h = simp (missing 2 f, and-false)
  kinds_test true true false d e f g h = simp (missing 3 g, and-false)
  kinds_test true true true false e f g h = simp (missing 4 h, and-false)

-- the pair of a kind is one of the four
pair_in : (P : ℕ → Type 0) → ((k : ℕ) → k < 4 → P (suc k)) → (s : List ℕ) (kind : ℕ) → P (pair_of_kind s kind)
unfolding pair_of_kind
pair_in P f s kind = of (eqb (kind_of_pair s 1) kind) (eqb (kind_of_pair s 2) kind) (eqb (kind_of_pair s 3) kind)
  where
    of : (a b c : Bool) → P (cond a 1 (cond b 2 (cond c 3 4)))
    of true b c = f 0 (omega arith)
    of false true c = f 1 (omega arith)
    of false false true = f 2 (omega arith)
    of false false false = f 3 (omega arith)

-- ---- refusals 5 and 6, one after the other
-- what an answer of the search for a kind says of it
module _ (s : List ℕ) (kind : ℕ) where
  pub not_present : None ≡ found s kind → present s kind ≡ false
  unfolding found
  not_present e = lacking _ e

  pub is_present : {p : Part} → Some p ≡ found s kind → (present s kind ≡ true) × (p ≡ part_at s (pair_of_kind s kind))
  unfolding found
  is_present e = having e

-- the four of them
module _ (s : List ℕ) where
  abbrev all_present : Bool
  all_present = present s 1 && present s 2 && present s 3 && present s 4

  five : refusal5 s ≡ not all_present
  five = kinds_test s (present s 1) (present s 2) (present s 3) (present s 4) refl refl refl refl ∙ of (present s 1) (present s 2) (present s 3) (present s 4)
    where
      of : (a b c d : Bool) → (not a || not b || not c || not d) ≡ not (a && b && c && d)
      of true true true true = refl
      of true true true false = refl
      of true true false d = refl
      of true false c d = refl
      of false b c d = refl

  -- a kind that no part has
  pub kind_missing : (kind : Kind) → None ≡ found s (kind_code kind) → None ≡ all_found s
  unfolding all_found
  kind_missing MembersKind e = simp (not_present s 1 e)
  kind_missing DowelKind e = simp (not_present s 2 e, and-false)
  kind_missing PositionsKind e = simp (not_present s 3 e, and-false)
  kind_missing LoadsKind e = simp (not_present s 4 e, and-false)

  pub kinds_missing : None ≡ all_found s → refusal5 s ≡ true
  unfolding all_found
  kinds_missing e = five ∙ ap not (lacking _ e)

  pub kinds_there : {p : Parts} → Some p ≡ all_found s → (refusal5 s ≡ false) × (p ≡ parts_of s)
  unfolding all_found
  kinds_there e = let t = having e in (five ∙ ap not t.0, t.1)

-- a part of a right chain lies within the record, and its length is its pair's
module _ {s : List ℕ} (h : Parted s) where
  module _ (kind : ℕ) where
    stretch_of : Stretch s kind (part_at s (pair_of_kind s kind))
    unfolding part_at part_of_pair
    stretch_of = record { inside = pair_in (λ k. pair_sum s k ≤ length s) h.inside s kind; bytes = refl }

    pub part_length : length (part_of_kind s kind) ≡ pair_length s (pair_of_kind s kind)
    unfolding part_of_pair part_at
    part_length =
        let i = stretch_of.inside in
        length-take-le _ (drop (pair_offset s (pair_of_kind s kind)) s) (rw length-drop (omega arith))

  positions_inside : (parts_of s).positions.start + (parts_of s).positions.bytes ≤ length s
  unfolding parts_of
  positions_inside = (stretch_of 3).inside

  six : refusal6 s ≡ not (sized s (parts_of s))
  unfolding refusal6 sized parts_of part_at part_of_pair
  six = simp (part_length 1, part_length 2, part_length 4)

-- what was found lies within the record
pub part_inside : {s bounds : List ℕ} {b : Bool} {p : Parts} → Read Two s 4 20 4 (replicate 5 0) bounds b → b ≡ true → Some p ≡ all_found s
    → p.positions.start + p.positions.bytes ≤ length s
part_inside {s} e h g = rw (kinds_there s g).1 (positions_inside (bounded e h).parted)

-- ---- refusals 1 to 6, one after the other
module _ (s : List ℕ) where
  abbrev answer : ℕ
  answer = first_holding (script_tests s)

  pub too_short : length s < 20 → 1 ≡ answer
  unfolding refusal1 first_holding
  too_short l = simp (lt-ltb (length s) 20 l)

  -- refusals 1 to 3 do not hold
  pub record HeaderRight : Type 0 where
    pub one : refusal1 s ≡ false
    pub two : refusal2 s ≡ false
    pub three : refusal3 s ≡ false

  module _ (l : 20 ≤ length s) {n : ℕ} (v : n ≡ version s) {q : Bool} (k : q ≡ is_version n) where
    two_is : refusal2 s ≡ not q
    unfolding refusal2
    two_is = ap (λ (z : ℕ). not (is_version z)) (sym v) ∙ ap not (sym k)

    pub wrong_version : q ≡ false → 2 ≡ answer
    unfolding refusal1 first_holding
    wrong_version h = simp (le-ltb (length s) 20 l, two_is ∙ ap not h)

    module _ (v1 : q ≡ true) {m : ℕ} (w : m ≡ pair_count s) where
      pub wrong_count : (m ≡ 4 → ⊥) → 3 ≡ answer
      unfolding refusal1 refusal3 first_holding
      wrong_count h = simp (le-ltb (length s) 20 l, two_is ∙ ap not v1, unequal w h)

      pub header_right : m ≡ 4 → HeaderRight
      unfolding refusal1 refusal3
      header_right h = record { one = le-ltb (length s) 20 l; two = two_is ∙ ap not v1; three = simp (equal w h) }

  module _ (a : HeaderRight) {bounds : List ℕ} {b : Bool} (e : Read Two s 4 20 4 (replicate 5 0) bounds b) where
    pub pairs_broken : b ≡ false → 4 ≡ answer
    unfolding first_holding
    pairs_broken h = simp (a.one, a.two, a.three, sym (four e) ∙ ap not h)

    module _ (h : b ≡ true) where
      pub wrong_kinds : None ≡ all_found s → 5 ≡ answer
      unfolding first_holding
      wrong_kinds g = simp (a.one, a.two, a.three, sym (four e) ∙ ap not h, kinds_missing s g)

      module _ {p : Parts} (g : Some p ≡ all_found s) {q : Bool} (k : q ≡ sized s p) where
        six_is : refusal6 s ≡ not q
        six_is = six (parted s (sym (four e) ∙ ap not h)) ∙ ap not (ap (sized s) (sym (kinds_there s g).1) ∙ sym k)

        pub wrong_length : q ≡ false → 6 ≡ answer
        unfolding first_holding
        wrong_length l = simp (a.one, a.two, a.three, sym (four e) ∙ ap not h, (kinds_there s g).0, six_is ∙ ap not l)

        pub right_lengths : q ≡ true → 0 ≡ answer
        unfolding first_holding
        right_lengths l = simp (a.one, a.two, a.three, sym (four e) ∙ ap not h, (kinds_there s g).0, six_is ∙ ap not l)

  -- what is left for the reader of values
  pub laid_out : {p : Parts} → 0 ≡ answer → p ≡ parts_of s → LaidOut s p
  unfolding numbered refusal1 refusal6 parts_of positions_length
  laid_out {p} e h =
      let n = no_number (script_tests s) refl (sym e) in
      let p = parted s (n.none 3) in
      let six : (eqb (length (part_of_kind s 1)) 42 && eqb (length (part_of_kind s 2)) 3
      && (leb 2 (length (part_of_kind s 3)) && eqb (length (part_of_kind s 3)) (2 + 8 * u8_at (part_of_kind s 3) 1))
      && eqb (length (part_of_kind s 4)) 11) ≡ true =
      not-false _ (n.none 5) in
      let t = simp and-eq-true_iff at six in
      rw h
      (record {
        header = ltb-false _ _ (n.none 0);
        members = stretch_of p 1;
        dowel = stretch_of p 2;
        positions = stretch_of p 3;
        loads = stretch_of p 4;
        members_length = eqb-true _ _ t.0.0.0;
        dowel_length = eqb-true _ _ t.0.0.1;
        positions_length_lem = eqb-true _ _ t.0.1.1;
        loads_length = eqb-true _ _ t.1;
      })

pub values_read : {s : List ℕ} {p : Parts} {a b c d : List ℕ} {k : ℕ} {m : Members} {w : Dowel} {n : Positions} {l : Loads} → LaidOut s p
    → k ≡ version s
    → a ≡ take p.members.bytes (drop p.members.start s) → m ≡ members_in a
    → b ≡ take p.dowel.bytes (drop p.dowel.start s) → w ≡ dowel_in b
    → c ≡ take p.positions.bytes (drop p.positions.start s) → n ≡ positions_in c
    → d ≡ take p.loads.bytes (drop p.loads.start s) → l ≡ loads_in d
    → record { version = k; members = m; dowel = w; positions = n; loads = l } ≡ values_of s
unfolding values_of
values_read o k a m b w c n d l = cc
