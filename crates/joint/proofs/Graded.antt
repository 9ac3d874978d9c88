-- Joints by a firm's own table follow from the definitions: every report for which the top claim holds says what stands beside them.
use Prim.Native.Nat.{ℕ, ◌+◌}
use mathlib.Core.Path.{◌≡◌, refl, ap, ◌∙◌, subst}
use mathlib.Core.List.{List, [], ◌∷◌, map}
use native.Mathlib.Nat.{not-le_of_lt}
use native.Mathlib.Omega.{arith}
use lib.Dec.{lit<, lit≤}
use lib.IntN.{pos, negsuc}
use lib.ListN.{get_or}
use Rattle.numbers.specs.Numbers.{twos_complement, i32_at, coordinate, force}
use Rattle.codes.specs.Tables.{steel_of}
use Rattle.tables.specs.Tests.{first_holding}
use Rattle.tables.specs.Classes.{class_in}
use Rattle.tables.specs.Entries.{entries_in, entry_within, rise, refusal15}
use Rattle.tables.specs.Pairs.{all_whole, refusal14}
use Rattle.tables.specs.Table.{own_table}
use Rattle.tables.proofs.Loading.{own_right}
use Rattle.strength.specs.Fraction.{Fraction, whole}
use Rattle.strength.specs.Shear.{AtMostR, bearing}
use Rattle.spacing.specs.Verdict.{Fault}
use Rattle.spacing.specs.Spacing.{along_enough, end_passes, edge_passes}
use Rattle.spacing.specs.Search.{first_from, partner, first_pair}
use Rattle.spacing.specs.Verdict.{fault, pair_fault, end_fault, edge_fault, verdict_in, member_verdict, spacing_verdict}
use Rattle.joint.specs.declared.Outline.{Outline}
use Rattle.joint.specs.declared.Values.{Values}
use Rattle.joint.specs.Answer.{Report}
use Rattle.chain.specs.Chain.{number_at, bound, all_follow, chained}
use Rattle.joint.specs.Layout.{part_of_pair, pair_of_kind, member_at, members_in, dowel_in, column, positions_in, loads_in, values_of}
use Rattle.joint.specs.Refusal.{refusal1, refusal2, refusal3, refusal4, one_if, once, refusal5, positions_length, refusal6}
use Rattle.joint.specs.Refusal.{outline_within, member_within, members_within, dowel_within, coordinates, positions_within, loads_within}
use Rattle.joint.specs.Refusal.{fields_within, outline_empty, empty_outlines, no_force, refusal_number, drill_fault, refusal_of}
use Rattle.joint.specs.DesignOf.{plane_in, design_of}
use Rattle.joint.specs.Use.{Answered}
use Rattle.joint.specs.Claim.{Judged}
use Rattle.joint.specs.Returned.{Passed}
use Rattle.joint.specs.Starred.{CarriesAs, Graded, one_class, graded, AllGraded}
use Rattle.joint.specs.Starred.Prints.{no_refusal}
use Rattle.joint.proofs.Claims.{accepted_passed}
use Rattle.joint.proofs.Stars.{none, four_dowels, capacity_two, refused_row, accepted_row}

-- ---- the refusal of each
abbrev refusals : List Fault
refusals = none ∷ none ∷ none ∷ fault 7 0 0 0 ∷ fault 14 0 0 0 ∷ fault 15 0 0 0 ∷ []

refused_as : map (λ (g : Graded). refusal_of (own_table g.table) g.bytes) graded ≡ refusals
unfolding refusal_of refusal_number first_holding all_whole refusal14 entries_in entry_within rise refusal15 refusal1 refusal2 refusal3 number_at bound
    all_follow chained refusal4 one_if once refusal5 positions_length refusal6 coordinate force class_in outline_within member_within
    members_within dowel_within coordinates positions_within loads_within fields_within outline_empty empty_outlines no_force drill_fault
    twos_complement i32_at part_of_pair pair_of_kind member_at members_in dowel_in column positions_in loads_in values_of pair_fault
    end_fault edge_fault verdict_in member_verdict spacing_verdict along_enough end_passes edge_passes first_from partner first_pair
refused_as = refl

abbrev nothing : Graded
nothing = record { table = []; bytes = []; prints = no_refusal }

abbrev at : ℕ → Graded
at k = get_or graded k nothing

refusal_at : (k : ℕ) → get_or (map (λ (g : Graded). refusal_of (own_table g.table) g.bytes) graded) k none ≡ get_or refusals k none
refusal_at k = ap (λ (l : List Fault). get_or l k none) refused_as

-- ---- joint B in wide outlines, with its force across the grain
abbrev outline : Outline
outline = record { x0 = negsuc 89999; y0 = negsuc 89999; x1 = pos 90000; y1 = pos 90000 }

abbrev wide : Values
wide = record {
  version = 1;
  members = record {
    planes = 2;
    member1 = record { class = 1; grain = 0; thickness = 600; outline = outline };
    member2 = record { class = 1; grain = 0; thickness = 800; outline = outline };
  };
  dowel = record { diameter = 12; steel = 1 };
  positions = four_dowels;
  loads = record { service_class = 1; duration = 3; fx = pos 0; fy = pos 20000 };
}

wide_read : (values_of (at 0).bytes ≡ wide) × (values_of (at 1).bytes ≡ wide)
unfolding twos_complement i32_at part_of_pair pair_of_kind member_at members_in dowel_in column positions_in loads_in values_of
wide_read = (refl, refl)

-- what the claim says of it, by a table
module _ (table bytes : List ℕ) (a : refusal_of (own_table table) bytes ≡ none) (e : values_of bytes ≡ wide) where
  passed : Passed (own_table table) wide
  passed = subst (Passed (own_table table)) e (accepted_passed (own_table table) (own_right table) bytes (ap (λ (f : Fault). f.number) a))

  answered_as : (r : Report) → Judged (own_table table) bytes r → Answered (design_of (own_table table) wide) r
  answered_as r j = subst (λ (w : Values). Answered (design_of (own_table table) w) r) e (j.accepted (ap (λ (f : Fault). f.number) a))

  -- c + 1 passes and c + 2 fails, so it carries c or one more
  carried :
      (c : ℕ) → AtMostR (design_of (own_table table) wide).plane (whole (c + 1)) →
      (AtMostR (design_of (own_table table) wide).plane (whole (c + 2)) → ⊥) → (r : Report) → Judged (own_table table) bytes r →
      CarriesAs c (c + 1) r
  carried c passes fails r j = record {
    number = j.number ∙ ap (λ (f : Fault). f.number) a;
    capacity = capacity_two passed c r.capacity passes fails (answered_as r j).capacity;
  }

-- at most R, with class 1 of a kind
abbrev AtMost : ℕ → Fraction → Type 0
AtMost kind = AtMostR (design_of (own_table (one_class 1 kind)) wide).plane

hardwood_passes : AtMost 1 (whole 11481)
unfolding plane_in bearing class_in number_at bound all_follow chained all_whole refusal14 entries_in steel_of
hardwood_passes = record { first = lit≤ tt; second = record { within = lit≤ tt; square = lit≤ tt }; third = lit≤ tt }

hardwood_fails : AtMost 1 (whole 11482) → ⊥
unfolding plane_in bearing class_in number_at bound all_follow chained all_whole refusal14 entries_in steel_of
hardwood_fails p = not-le_of_lt (lit< tt) p.first

softwood_passes : AtMost 0 (whole 9646)
unfolding plane_in bearing class_in number_at bound all_follow chained all_whole refusal14 entries_in steel_of
softwood_passes = record { first = lit≤ tt; second = record { within = lit≤ tt; square = lit≤ tt }; third = lit≤ tt }

softwood_fails : AtMost 0 (whole 9647) → ⊥
unfolding plane_in bearing class_in number_at bound all_follow chained all_whole refusal14 entries_in steel_of
softwood_fails p = not-le_of_lt (lit< tt) p.first

pub all_graded : AllGraded graded
all_graded = (
  carried (one_class 1 1) (at 0).bytes (refusal_at 0) wide_read.0 11480 hardwood_passes hardwood_fails,
  (
    carried (one_class 1 0) (at 1).bytes (refusal_at 1) wide_read.1 9645 softwood_passes softwood_fails,
    (
      accepted_row _ (refusal_at 2),
      (
        refused_row _ _ (refusal_at 3) (λ e. omega arith),
        (refused_row _ _ (refusal_at 4) (λ e. omega arith), (refused_row _ _ (refusal_at 5) (λ e. omega arith), tt)),
      ),
    ),
  ),
)
