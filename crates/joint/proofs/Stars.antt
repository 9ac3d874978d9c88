-- The starred joints of 01, and two of oak, follow from the definitions: every report for which the top claim holds says what stands
-- beside them.
use Prim.Native.Nat.{ℕ, zero, suc, ◌+◌, ◌*◌, ◌≤◌, ◌<◌}
use mathlib.Core.Path.{◌≡◌, refl, sym, ap, ◌∙◌, subst, subst⁻¹}
use mathlib.Core.List.{List, [], ◌∷◌, map}
use mathlib.Core.Logic.{⊎_elim}
use native.Mathlib.Nat.{lt_of_not-le, mul-le-mul_right, lt_of_mul-lt-mul_left, not-le_of_lt}
use native.Mathlib.Omega.{arith}
use lib.Dec.{lit<, lit≤}
use lib.IntN.{pos, negsuc}
use lib.ListN.{get_or, replicate}
use Rattle.numbers.specs.Numbers.{twos_complement, i32_at, coordinate, force}
use Rattle.strength.specs.Fraction.{Fraction, ◌over◌, whole, ◌↑◌, ◌≼◌}
use Rattle.strength.specs.Shear.{AtMostR, bearing}
use Rattle.codes.specs.Tables.{printed_classes, steel_of, kmod_of}
use Rattle.tables.specs.Tests.{first_holding}
use Rattle.tables.specs.Classes.{class_in}
use Rattle.tables.specs.Table.{Table, printed}
use Rattle.strength.proofs.Falling.{falls}
use Rattle.spacing.specs.Verdict.{Fault}
use Rattle.spacing.specs.Spacing.{place, along_enough, end_passes, edge_passes}
use Rattle.spacing.specs.Search.{first_from, partner, first_pair}
use Rattle.spacing.specs.Verdict.{fault, pair_fault, end_fault, edge_fault, verdict_in, member_verdict, spacing_verdict}
use Rattle.group.specs.Rows.{count_to, OfRow, NotAbove, NotBelow, SomeRowAbove, share_over}
use Rattle.group.specs.Rows.NotBelow.{several}
use Rattle.group.specs.Share.{least_to, closest_to, window_number, window_closest}
use Rattle.group.proofs.Effective.{not_above_falls}
use Rattle.group.proofs.RowLaws.{some_row, from_lowest}
use Rattle.joint.specs.declared.Positions.{Positions}
use Rattle.joint.specs.declared.Values.{Values}
use Rattle.joint.specs.Answer.{Report}
use Rattle.chain.specs.Chain.{number_at, bound, all_follow, chained}
use Rattle.joint.specs.Layout.{part_of_pair, pair_of_kind, member_at, members_in, dowel_in, column, positions_in, loads_in, values_of}
use Rattle.joint.specs.Refusal.{refusal1, refusal2, refusal3, refusal4, one_if, once, refusal5, positions_length, refusal6}
use Rattle.joint.specs.Refusal.{outline_within, member_within, members_within, dowel_within, coordinates, positions_within, loads_within}
use Rattle.joint.specs.Refusal.{fields_within, outline_empty, empty_outlines, no_force, refusal_number, drill_fault, refusal_of}
use Rattle.joint.specs.Design.{Design}
use Rattle.joint.specs.DesignOf.{plane_in, plane_of, design_of}
use Rattle.joint.specs.Use.{Above0, plane_force, row_force, Enough, CapacityBracket, ShareBracket, UseBracket, Answered}
use Rattle.joint.specs.Claim.{Judged}
use Rattle.joint.specs.Returned.{Passed}
use Rattle.joint.specs.Starred.{PassesAs, RefusedAs, Within, SaysSo, Starred, starred, AllHold}
use Rattle.joint.specs.Starred.Prints.{no_refusal}
use Rattle.joint.proofs.EnoughLaws.{RowBy, enough_up, enough_by}
use Rattle.joint.proofs.Answers.{plane, sound}
use Rattle.joint.proofs.Claims.{accepted_passed, fits, overloaded}
use Rattle.tables.proofs.Loading.{printed_right}
use Rattle.joint.proofs.Meaning.{no_refusal_lem}

-- ---- the table: the refusal of each star, and the values of those that are judged
abbrev pub none : Fault
none = fault 0 0 0 0

abbrev refusals : List Fault
refusals =
    none ∷ none ∷ none ∷ fault 10 1 1 2 ∷ fault 11 2 2 0 ∷ fault 12 1 3 0 ∷ none ∷ fault 7 0 0 0 ∷ none ∷ none
    ∷ fault 10 1 1 2 ∷ none ∷ none ∷ []

refused_as : map (λ (s : Starred). refusal_of printed s.bytes) starred ≡ refusals
unfolding refusal_of refusal_number first_holding refusal1 refusal2 refusal3 number_at bound all_follow chained refusal4 one_if once refusal5 positions_length
    refusal6 coordinate force class_in printed_classes outline_within member_within members_within dowel_within coordinates positions_within
    loads_within fields_within outline_empty empty_outlines no_force drill_fault twos_complement i32_at part_of_pair pair_of_kind
    member_at members_in dowel_in column positions_in loads_in values_of pair_fault end_fault edge_fault verdict_in
    member_verdict spacing_verdict along_enough end_passes edge_passes first_from partner first_pair
refused_as = refl

abbrev pub four_dowels : Positions
four_dowels = record {
  n = 4;
  x = pos 0 ∷ pos 600 ∷ pos 0 ∷ pos 600 ∷ replicate 60 (pos 0);
  y = pos 0 ∷ pos 0 ∷ pos 360 ∷ pos 360 ∷ replicate 60 (pos 0);
}

abbrev one_dowel : Positions
one_dowel = record { n = 1; x = replicate 64 (pos 0); y = replicate 64 (pos 0) }

-- joint B with the members' classes, fx, fy, t1 and the positions
abbrev kin_of : ℕ → ℕ → ℕ → ℕ → ℕ → Positions → Values
kin_of class1 class2 fx fy t1 places = record {
  version = 1;
  members = record {
    planes = 2;
    member1 = record {
      class = class1;
      grain = 0;
      thickness = t1;
      outline = record { x0 = negsuc 839; y0 = negsuc 359; x1 = pos 20000; y1 = pos 720 };
    };
    member2 = record {
      class = class2;
      grain = 0;
      thickness = 800;
      outline = record { x0 = negsuc 19999; y0 = negsuc 359; x1 = pos 1440; y1 = pos 720 };
    };
  };
  dowel = record { diameter = 12; steel = 1 };
  positions = places;
  loads = record { service_class = 1; duration = 3; fx = pos fx; fy = pos fy };
}

-- of C24, with a force along x; of D30, across; of D30 between C24, at an angle
abbrev kin : ℕ → ℕ → Positions → Values
kin fx t1 places = kin_of 1 1 fx 0 t1 places

abbrev oak : Values
oak = kin_of 9 9 0 3000 600 one_dowel

abbrev mixed : Values
mixed = kin_of 1 9 3000 4000 600 one_dowel

abbrev star : ℕ → Starred
star k = get_or starred k (record { bytes = []; prints = no_refusal })

abbrev judged_stars : List ℕ
judged_stars = 0 ∷ 1 ∷ 2 ∷ 6 ∷ 8 ∷ 11 ∷ 12 ∷ []

abbrev judged_values : List Values
judged_values =
    kin 20000 600 four_dowels ∷ kin 26700 600 four_dowels ∷ kin 27000 600 four_dowels ∷ kin 20000 200 four_dowels
    ∷ kin 3000 600 one_dowel ∷ oak ∷ mixed ∷ []

values_as : map (λ (k : ℕ). values_of (star k).bytes) judged_stars ≡ judged_values
unfolding twos_complement i32_at part_of_pair pair_of_kind member_at members_in dowel_in column positions_in loads_in values_of
values_as = refl

value_at :
    (k : ℕ) →
    get_or (map (λ (i : ℕ). values_of (star i).bytes) judged_stars) k (kin 0 0 one_dowel) ≡ get_or judged_values k (kin 0 0 one_dowel)
value_at k = ap (λ (l : List Values). get_or l k (kin 0 0 one_dowel)) values_as

refusal_at : (k : ℕ) → get_or (map (λ (s : Starred). refusal_of printed s.bytes) starred) k none ≡ get_or refusals k none
refusal_at k = ap (λ (l : List Fault). get_or l k none) refused_as

-- ---- refused stars
pub refused_row :
    {t : Table} (bytes : List ℕ) (f : Fault) → refusal_of t bytes ≡ f → (f.number ≡ 0 → ⊥) → (r : Report) → Judged t bytes r →
    RefusedAs f.number f.member f.first f.second r
refused_row bytes f e n r j = record {
  verdict = (j.refused (λ h. n (sym (ap (λ (g : Fault). g.number) e) ∙ h))).verdict;
  number = j.number ∙ ap (λ (g : Fault). g.number) e;
  member = j.member ∙ ap (λ (g : Fault). g.member) e;
  first = j.first ∙ ap (λ (g : Fault). g.first) e;
  second = j.second ∙ ap (λ (g : Fault). g.second) e;
}

pub accepted_row :
    {t : Table} (bytes : List ℕ) → refusal_of t bytes ≡ none → (r : Report) → Judged t bytes r → PassesAs r
accepted_row bytes e r j =
    let a = ap (λ (f : Fault). f.number) e in
    record { verdict = λ v. no_refusal_lem r.usage (sym (j.accepted a).verdict ∙ v); number = j.number ∙ a }

-- ---- judged stars: from the claim and a few tests at numerals to 01's ranges
not_more : (a b : ℕ) → (b + 1 ≤ a → ⊥) → a ≤ b
not_more a b f = omega (arith, lt_of_not-le f)

-- c + 1 passes and c + 2 fails, so a capacity is c or one more
pub capacity_two :
    {t : Table} {v : Values} → Passed t v → (c C : ℕ) → AtMostR (design_of t v).plane (whole (c + 1)) →
    (AtMostR (design_of t v).plane (whole (c + 2)) → ⊥) → CapacityBracket (design_of t v) C → Within c (c + 1) C
capacity_two {t} {v} p c C passes fails b =
    let j = (design_of t v).plane in
    record {
      from = not_more c C (λ h. b.high (falls j (plane t v p) (whole (c + 1)) (whole (C + 2)) (lit< tt) (omega arith) passes));
      to = not_more C (c + 1) (λ h. fails (falls j (plane t v p) (whole C) (whole (c + 2)) (lit< tt) (omega arith) b.low));
    }

module _ (class1 class2 fx fy t1 : ℕ) (places : Positions) (p : Passed printed (kin_of class1 class2 fx fy t1 places)) where
  abbrev j : Design
  j = design_of printed (kin_of class1 class2 fx fy t1 places)

  abbrev R : Fraction → Type 0
  R = AtMostR j.plane

  -- u is enough, so the use is at most 10,050 u + 2; w is not, so it is above 10,000 w
  use_most : (u : Fraction) (U h : ℕ) → Enough j u → 10050 * u.num + 2 * u.den < (h + 1) * u.den → UseBracket j U → U ≤ h
  use_most u U h e l b =
      let q : U < h + 1 = lt_of_mul-lt-mul_left u.den (omega (arith, b.least u e, l)) in omega arith

  use_least : (w U : ℕ) → 0 < w → (Enough j (w over 10000) → ⊥) → UseBracket j U → w + 1 ≤ U
  use_least w U pw n b =
      not_more (w + 1) U
      (λ h. n (enough_up j (sound printed _ p) (U over 10000) (w over 10000) (record { num = pw; den = lit< tt }) (omega arith) b.enough))

  -- all rows have n₀ dowels a₀ apart
  abbrev row : ℕ → ℕ → Type 0
  row = OfRow places.x places.y places.n 120

  module _ (n₀ a₀ : ℕ) (some : row n₀ a₀) (every : (n a1 : ℕ) → row n a1 → (n ≡ n₀) × (1 < n → a1 ≡ a₀)) where
    not_above : (n a1 : ℕ) → row n a1 → (e : ℕ → Fraction) → NotAbove 12 n₀ a₀ (e n₀) → NotAbove 12 n a1 (e n)
    not_above n a1 r e h =
        let k = every n a1 r in
        record {
          number = subst⁻¹ (λ (m : ℕ). e m ≼ whole m) k.0 h.number;
          several = λ m. rw (k.1 m, k.0) (h.several (rw k.0 at m));
        }

    less : (E F : ℕ) → F ≤ E → NotAbove 12 n₀ a₀ (share_over E n₀) → NotAbove 12 n₀ a₀ (share_over F n₀)
    less E F h = not_above_falls 12 n₀ a₀ (share_over F n₀) (share_over E n₀) (lit< tt) (omega (arith, mul-le-mul_right n₀ h))

    -- e + 1 passes and e + 2 fails, so a share is e or one more
    share_two :
        (e E : ℕ) → NotAbove 12 n₀ a₀ (share_over (e + 1) n₀) → (NotAbove 12 n₀ a₀ (share_over (e + 2) n₀) → ⊥) →
        ShareBracket j E → Within e (e + 1) E
    share_two e E passes fails b = record {
      from = ⊎_elim from (⊎_elim from absurd) b.some;
      to = not_more E (e + 1) (λ h. fails (less E (e + 2) (omega arith) (b.every.0 n₀ a₀ some)));
    }
      where
        from : SomeRowAbove row 12 (E + 2) → e ≤ E
        from s =
            not_more e E
            (λ h. s.above (not_above s.n s.a1 s.is (share_over (E + 2)) (less (e + 1) (E + 2) (omega arith) passes)))

    enough :
        (u e : Fraction) (g : ℕ) → Above0 u → Above0 e → NotAbove 12 n₀ a₀ e → R (plane_force (whole g) j.counted j.kmod u) →
        R (row_force fx n₀ e j.counted j.kmod u) → whole j.squared_force ≼ (whole g ↑ 2) → Enough j u
    enough u e g pu pe na total one hF = enough_by j (sound printed _ p) u (whole g) pu (lit< tt) hF total (by, (by, tt))
      where
        by : (n a1 : ℕ) → row n a1 → RowBy j (sound printed _ p) u fx n a1
        by n a1 r = record {
          e = e;
          above0 = pe;
          not_above = not_above n a1 r (λ _. e) na;
          passes = subst⁻¹ (λ (m : ℕ). R (row_force fx m e j.counted j.kmod u)) (every n a1 r).0 one;
        }

    not_enough :
        (u e : Fraction) → Above0 e → NotBelow 12 n₀ a₀ e → (R (row_force fx n₀ e j.counted j.kmod u) → ⊥) → Enough j u → ⊥
    not_enough u e pe nb f h = f (h.rows.0 n₀ a₀ some e pe nb)

-- ---- four dowels: rows of 2, 600 apart
two_rows :
    (i : ℕ) → i < 4 →
    let z = place four_dowels.y i in
    (window_number four_dowels.y 4 120 z ≡ 2) × (window_closest four_dowels.x four_dowels.y 4 120 z ≡ 600)
unfolding count_to least_to closest_to
two_rows zero l = (refl, refl)
two_rows (suc zero) l = (refl, refl)
two_rows (suc (suc zero)) l = (refl, refl)
two_rows (suc (suc (suc zero))) l = (refl, refl)
two_rows (suc (suc (suc (suc i)))) l = absurd (omega arith)

abbrev FourRow : ℕ → ℕ → Type 0
FourRow = OfRow four_dowels.x four_dowels.y 4 120

four_every : (n a1 : ℕ) → FourRow n a1 → (n ≡ 2) × (1 < n → a1 ≡ 600)
four_every n a1 r =
    let l = from_lowest four_dowels.x four_dowels.y 4 120 n a1 (lit≤ tt) r in
    let t = two_rows l.dowel l.within in
    (l.number ∙ t.0, λ m. l.distance m (omega (arith, t.1)) ∙ t.1)

four_some : FourRow 2 600
four_some =
    let r = some_row four_dowels.x four_dowels.y 4 120 (lit≤ tt) in
    let k = four_every r.n r.a1 r.is in
    subst (FourRow 2) (k.1 (omega (arith, k.0))) (subst (λ n. FourRow n r.a1) k.0 r.is)

-- the effective number of 2 dowels 600 apart lies between these
abbrev below2 : Fraction
below2 = 14695476 over 10000000

abbrev above2 : Fraction
above2 = 14695478 over 10000000

-- ---- the lone dowel: a row of 1
abbrev OneRow : ℕ → ℕ → Type 0
OneRow = OfRow one_dowel.x one_dowel.y 1 120

lone : (i : ℕ) → i < 1 → window_number one_dowel.y 1 120 (place one_dowel.y i) ≡ 1
unfolding count_to
lone zero l = refl
lone (suc i) l = absurd (omega arith)

one_every : (n a1 : ℕ) → OneRow n a1 → (n ≡ 1) × (1 < n → a1 ≡ 0)
one_every n a1 r =
    let l = from_lowest one_dowel.x one_dowel.y 1 120 n a1 (lit≤ tt) r in
    let e = l.number ∙ lone l.dowel l.within in
    (e, λ m. absurd (omega arith))

-- every number stands for its a1
one_some : OneRow 1 0
one_some =
    let r = some_row one_dowel.x one_dowel.y 1 120 (lit≤ tt) in
    let e = (one_every r.n r.a1 r.is).0 in
    record { in_row = r.is.in_row; row = r.is.row; number = sym e ∙ r.is.number; distance = λ m. absurd (omega arith) }

-- ---- the theorem
abbrev Holds : Starred → Type 0
Holds s = (r : Report) → Judged printed s.bytes r → SaysSo s.prints r

-- what the claim says of a judged star
module _ (k : ℕ) (v : Values) (a : refusal_of printed (star k).bytes ≡ none) (e : values_of (star k).bytes ≡ v) where
  passed : Passed printed v
  passed = subst (Passed printed) e (accepted_passed printed printed_right (star k).bytes (ap (λ (f : Fault). f.number) a))

  answered_as : (r : Report) → Judged printed (star k).bytes r → Answered (design_of printed v) r
  answered_as r j = subst (λ (w : Values). Answered (design_of printed w) r) e (j.accepted (ap (λ (f : Fault). f.number) a))

-- the tests at numerals: at most R, with fx and t1 for C24
abbrev AtMostIn : Values → Fraction → Type 0
AtMostIn v = AtMostR (plane_of printed v.members v.dowel v.loads)

abbrev AtMost : ℕ → ℕ → Fraction → Type 0
AtMost fx t1 = AtMostIn (kin fx t1 one_dowel)

abbrev row_of2 : ℕ → Fraction → Fraction → Fraction
row_of2 fx e v = row_force fx 2 e (whole 8) 80 v

capacity_b : AtMost 20000 600 (whole 7441)
unfolding plane_in bearing class_in printed_classes steel_of
capacity_b = record { first = lit≤ tt; second = record { within = lit≤ tt; square = lit≤ tt }; third = lit≤ tt }

total_b : AtMost 20000 600 (plane_force (whole 20000) (whole 8) 80 (74305 over 100000))
unfolding plane_in bearing class_in printed_classes steel_of
total_b = record { first = lit≤ tt; second = record { within = lit≤ tt; square = lit≤ tt }; third = lit≤ tt }

rows_b : AtMost 20000 600 (row_of2 20000 below2 (74305 over 100000))
unfolding plane_in bearing class_in printed_classes steel_of
rows_b = record { first = lit≤ tt; second = record { within = lit≤ tt; square = lit≤ tt }; third = lit≤ tt }

above_b : (AtMost 20000 600 (whole 7442) → ⊥) × (AtMost 20000 600 (row_of2 20000 above2 (7430 over 10000)) → ⊥)
unfolding plane_in bearing class_in printed_classes steel_of
above_b = (λ p. not-le_of_lt (lit< tt) p.first, λ p. not-le_of_lt (lit< tt) p.first)

total_26700 : AtMost 26700 600 (plane_force (whole 26700) (whole 8) 80 (993 over 1000))
unfolding plane_in bearing class_in printed_classes steel_of
total_26700 = record { first = lit≤ tt; second = record { within = lit≤ tt; square = lit≤ tt }; third = lit≤ tt }

rows_26700 : AtMost 26700 600 (row_of2 26700 below2 (993 over 1000))
unfolding plane_in bearing class_in printed_classes steel_of
rows_26700 = record { first = lit≤ tt; second = record { within = lit≤ tt; square = lit≤ tt }; third = lit≤ tt }

above_27000 : AtMost 27000 600 (row_of2 27000 above2 (10000 over 10000)) → ⊥
unfolding plane_in bearing class_in printed_classes steel_of
above_27000 p = not-le_of_lt (lit< tt) p.first

capacity_200 : AtMost 20000 200 (whole 2510)
unfolding plane_in bearing class_in printed_classes steel_of
capacity_200 = record { first = lit≤ tt; second = record { within = lit≤ tt; square = lit≤ tt }; third = lit≤ tt }

above_200 : (AtMost 20000 200 (whole 2511) → ⊥) × (AtMost 20000 200 (row_of2 20000 above2 (10000 over 10000)) → ⊥)
unfolding plane_in bearing class_in printed_classes steel_of
above_200 = (λ p. not-le_of_lt (lit< tt) p.second.square, λ p. not-le_of_lt (lit< tt) p.second.square)

total_lone : AtMost 3000 600 (plane_force (whole 3000) (2 over 2) 80 (6552 over 10000))
unfolding plane_in bearing class_in printed_classes steel_of
total_lone = record { first = lit≤ tt; second = record { within = lit≤ tt; square = lit≤ tt }; third = lit≤ tt }

rows_lone : AtMost 3000 600 (row_force 3000 1 (whole 1) (2 over 2) 80 (6552 over 10000))
unfolding plane_in bearing class_in printed_classes steel_of
rows_lone = record { first = lit≤ tt; second = record { within = lit≤ tt; square = lit≤ tt }; third = lit≤ tt }

above_lone : AtMost 3000 600 (plane_force (whole 3000) (2 over 2) 80 (6551 over 10000)) → ⊥
unfolding plane_in bearing class_in printed_classes steel_of
above_lone p = not-le_of_lt (lit< tt) p.first

capacity_oak : AtMostIn oak (whole 8811)
unfolding plane_in bearing class_in printed_classes steel_of
capacity_oak = record { first = lit≤ tt; second = record { within = lit≤ tt; square = lit≤ tt }; third = lit≤ tt }

total_oak : AtMostIn oak (plane_force (whole 3000) (2 over 2) 80 (5533 over 10000))
unfolding plane_in bearing class_in printed_classes steel_of
total_oak = record { first = lit≤ tt; second = record { within = lit≤ tt; square = lit≤ tt }; third = lit≤ tt }

rows_oak : AtMostIn oak (row_force 0 1 (whole 1) (2 over 2) 80 (5533 over 10000))
unfolding plane_in bearing class_in printed_classes steel_of
rows_oak = record { first = lit≤ tt; second = record { within = lit≤ tt; square = lit≤ tt }; third = lit≤ tt }

above_oak : (AtMostIn oak (whole 8812) → ⊥) × (AtMostIn oak (plane_force (whole 3000) (2 over 2) 80 (5532 over 10000)) → ⊥)
unfolding plane_in bearing class_in printed_classes steel_of
above_oak = (λ p. not-le_of_lt (lit< tt) p.first, λ p. not-le_of_lt (lit< tt) p.first)

capacity_mixed : AtMostIn mixed (whole 6082)
unfolding plane_in bearing class_in printed_classes steel_of
capacity_mixed = record { first = lit≤ tt; second = record { within = lit≤ tt; square = lit≤ tt }; third = lit≤ tt }

above_mixed : (AtMostIn mixed (whole 6083) → ⊥) × (AtMostIn mixed (plane_force (whole 5000) (2 over 2) 80 (10000 over 10000)) → ⊥)
unfolding plane_in bearing class_in printed_classes steel_of
above_mixed = (λ p. not-le_of_lt (lit< tt) p.second.square, λ p. not-le_of_lt (lit< tt) p.second.square)

-- ---- four dowels with fx and t1: a v that is enough, and one that is not
above0 : (n d : ℕ) → 0 < n → 0 < d → Above0 (n over d)
above0 n d pn pd = record { num = pn; den = pd }

module _ (fx t1 : ℕ) (p : Passed printed (kin fx t1 four_dowels)) where
  four_enough :
      (u : Fraction) → Above0 u → AtMost fx t1 (plane_force (whole fx) (whole 8) 80 u) → AtMost fx t1 (row_of2 fx below2 u) →
      whole (fx * fx + 0 * 0) ≼ (whole fx ↑ 2) → Enough (design_of printed (kin fx t1 four_dowels)) u
  unfolding kmod_of
  four_enough u pu =
      enough 1 1 fx 0 t1 four_dowels p 2 600 four_some four_every u below2 fx pu (above0 _ _ (lit< tt) (lit< tt))
      (record { number = lit≤ tt; several = λ _. lit≤ tt })

  four_not : (u : Fraction) → (AtMost fx t1 (row_of2 fx above2 u) → ⊥) → Enough (design_of printed (kin fx t1 four_dowels)) u → ⊥
  unfolding kmod_of
  four_not u =
      not_enough 1 1 fx 0 t1 four_dowels p 2 600 four_some four_every u above2 (above0 _ _ (lit< tt) (lit< tt))
      (several (lit< tt) (lit≤ tt))

star_b : Holds (star 0)
star_b r j =
    let p = passed 0 (kin 20000 600 four_dowels) (refusal_at 0) (value_at 0) in
    let h = answered_as 0 (kin 20000 600 four_dowels) (refusal_at 0) (value_at 0) r j in
    let e = four_enough 20000 600 p (74305 over 100000) (above0 _ _ (lit< tt) (lit< tt)) total_b rows_b (lit≤ tt) in
    let most = use_most 1 1 20000 0 600 four_dowels p (74305 over 100000) r.usage 7469 e (lit< tt) h.usage in
    let least = use_least 1 1 20000 0 600 four_dowels p 7430 r.usage (lit< tt) (four_not 20000 600 p (7430 over 10000) above_b.1) h.usage in
    record {
      verdict = h.verdict ∙ sym (fits r.usage (omega arith));
      usage = record { from = least; to = most };
      capacity = capacity_two p 7440 r.capacity capacity_b above_b.0 h.capacity;
      share =
          share_two 1 1 20000 0 600 four_dowels p 2 600 four_some four_every 7346 r.share
          (record { number = lit≤ tt; several = λ _. lit≤ tt }) (λ q. not-le_of_lt (lit< tt) (q.several (lit< tt))) h.share;
    }

star_26700 : Holds (star 1)
star_26700 r j =
    let p = passed 1 (kin 26700 600 four_dowels) (refusal_at 1) (value_at 1) in
    let h = answered_as 1 (kin 26700 600 four_dowels) (refusal_at 1) (value_at 1) r j in
    let e = four_enough 26700 600 p (993 over 1000) (above0 _ _ (lit< tt) (lit< tt)) total_26700 rows_26700 (lit≤ tt) in
    h.verdict ∙ sym (fits r.usage (use_most 1 1 26700 0 600 four_dowels p (993 over 1000) r.usage 10000 e (lit< tt) h.usage))

star_27000 : Holds (star 2)
star_27000 r j =
    let p = passed 2 (kin 27000 600 four_dowels) (refusal_at 2) (value_at 2) in
    let h = answered_as 2 (kin 27000 600 four_dowels) (refusal_at 2) (value_at 2) r j in
    let n = four_not 27000 600 p (10000 over 10000) above_27000 in
    h.verdict ∙ sym (overloaded r.usage (use_least 1 1 27000 0 600 four_dowels p 10000 r.usage (lit< tt) n h.usage))

star_200 : Holds (star 6)
star_200 r j =
    let p = passed 6 (kin 20000 200 four_dowels) (refusal_at 6) (value_at 3) in
    let h = answered_as 6 (kin 20000 200 four_dowels) (refusal_at 6) (value_at 3) r j in
    let n = four_not 20000 200 p (10000 over 10000) above_200.1 in
    record {
      verdict = h.verdict ∙ sym (overloaded r.usage (use_least 1 1 20000 0 200 four_dowels p 10000 r.usage (lit< tt) n h.usage));
      capacity = capacity_two p 2509 r.capacity capacity_200 above_200.0 h.capacity;
    }

star_lone : Holds (star 8)
unfolding kmod_of
star_lone r j =
    let p = passed 8 (kin 3000 600 one_dowel) (refusal_at 8) (value_at 4) in
    let h = answered_as 8 (kin 3000 600 one_dowel) (refusal_at 8) (value_at 4) r j in
    let u = 6552 over 10000 in
    let e =
    enough 1 1 3000 0 600 one_dowel p 1 0 one_some one_every u (whole 1) 3000 (above0 _ _ (lit< tt) (lit< tt)) (above0 _ _ (lit< tt) (lit< tt))
    (record { number = lit≤ tt; several = λ m. absurd (omega arith) }) total_lone rows_lone (lit≤ tt) in
    record {
      usage = record {
        from =
            use_least 1 1 3000 0 600 one_dowel p 6551 r.usage (lit< tt)
            (λ n. above_lone (n.total (whole 3000) (lit< tt) (lit≤ tt))) h.usage;
        to = use_most 1 1 3000 0 600 one_dowel p u r.usage 6586 e (lit< tt) h.usage;
      };
      share =
          share_two 1 1 3000 0 600 one_dowel p 1 0 one_some one_every 9999 r.share
          (record { number = lit≤ tt; several = λ m. absurd (omega arith) }) (λ q. not-le_of_lt (lit< tt) q.number) h.share;
    }

star_oak : Holds (star 11)
unfolding kmod_of
star_oak r j =
    let p = passed 11 oak (refusal_at 11) (value_at 5) in
    let h = answered_as 11 oak (refusal_at 11) (value_at 5) r j in
    let u = 5533 over 10000 in
    let e =
    enough 9 9 0 3000 600 one_dowel p 1 0 one_some one_every u (whole 1) 3000 (above0 _ _ (lit< tt) (lit< tt))
    (above0 _ _ (lit< tt) (lit< tt)) (record { number = lit≤ tt; several = λ m. absurd (omega arith) }) total_oak rows_oak (lit≤ tt) in
    let most = use_most 9 9 0 3000 600 one_dowel p u r.usage 5562 e (lit< tt) h.usage in
    record {
      verdict = h.verdict ∙ sym (fits r.usage (omega arith));
      usage = record {
        from =
            use_least 9 9 0 3000 600 one_dowel p 5532 r.usage (lit< tt)
            (λ n. above_oak.1 (n.total (whole 3000) (lit< tt) (lit≤ tt))) h.usage;
        to = most;
      };
      capacity = capacity_two p 8810 r.capacity capacity_oak above_oak.0 h.capacity;
      share =
          share_two 9 9 0 3000 600 one_dowel p 1 0 one_some one_every 9999 r.share
          (record { number = lit≤ tt; several = λ m. absurd (omega arith) }) (λ q. not-le_of_lt (lit< tt) q.number) h.share;
    }

star_mixed : Holds (star 12)
unfolding kmod_of
star_mixed r j =
    let p = passed 12 mixed (refusal_at 12) (value_at 6) in
    let h = answered_as 12 mixed (refusal_at 12) (value_at 6) r j in
    let least =
    use_least 1 9 3000 4000 600 one_dowel p 10000 r.usage (lit< tt)
    (λ n. above_mixed.1 (n.total (whole 5000) (lit< tt) (lit≤ tt))) h.usage in
    record {
      verdict = h.verdict ∙ sym (overloaded r.usage least);
      capacity = capacity_two p 6081 r.capacity capacity_mixed above_mixed.0 h.capacity;
    }

pub stars : AllHold starred
stars = (
  star_b,
  (
    star_26700,
    (
      star_27000,
      (
        refused_row _ _ (refusal_at 3) (λ e. omega arith),
        (
          refused_row _ _ (refusal_at 4) (λ e. omega arith),
          (
            refused_row _ _ (refusal_at 5) (λ e. omega arith),
            (
              star_200,
              (
                refused_row _ _ (refusal_at 7) (λ e. omega arith),
                (star_lone, (accepted_row _ (refusal_at 9), (refused_row _ _ (refusal_at 10) (λ e. omega arith), (star_oak, (star_mixed, tt))))),
              ),
            ),
          ),
        ),
      ),
    ),
  ),
)
