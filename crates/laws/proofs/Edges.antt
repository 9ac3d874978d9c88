-- The joints at the limits of their edges follow from the definitions: every report for which the top claim holds says what stands beside them.
use Prim.Native.Nat.{ℕ}
use mathlib.Core.Path.{◌≡◌, refl, sym, ap, ◌∙◌, subst}
use mathlib.Core.Bool.{false}
use mathlib.Core.List.{List, [], ◌∷◌, map}
use native.Mathlib.Omega.{arith}
use lib.ListN.{get_or}
use Rattle.numbers.specs.Numbers.{twos_complement, i32_at, coordinate, force}
use Rattle.chain.specs.Chain.{number_at, bound, all_follow, chained}
use Rattle.codes.specs.Tables.{printed_classes}
use Rattle.tables.specs.Tests.{first_holding}
use Rattle.tables.specs.Classes.{class_in}
use Rattle.tables.specs.Table.{printed}
use Rattle.spacing.specs.Spacing.{along_enough, end_passes, edge_passes}
use Rattle.spacing.specs.Search.{first_from, partner, first_pair}
use Rattle.spacing.specs.Verdict.{Fault, fault, pair_fault, end_fault, edge_fault, verdict_in, member_verdict, spacing_verdict}
use Rattle.joint.specs.Answer.{Report}
use Rattle.joint.specs.Design.{Design}
use Rattle.joint.specs.Layout.{part_of_pair, pair_of_kind, member_at, members_in, dowel_in, column, positions_in, loads_in, values_of}
use Rattle.joint.specs.Refusal.{refusal1, refusal2, refusal3, refusal4, one_if, once, refusal5, positions_length, refusal6}
use Rattle.joint.specs.Refusal.{outline_within, member_within, members_within, dowel_within, coordinates, positions_within, loads_within}
use Rattle.joint.specs.Refusal.{fields_within, outline_empty, empty_outlines, no_force, refusal_number, drill_fault, refusal_of}
use Rattle.joint.specs.Use.{Answered}
use Rattle.joint.specs.Claim.{Judged}
use Rattle.joint.specs.Starred.{Starred, AllHold, joint_b}
use Rattle.joint.proofs.Stars.{none, refused_row, accepted_row, stars}
use Rattle.laws.specs.Versions.{in_version}
use Rattle.laws.specs.Edges.{edges}
use Rattle.laws.proofs.Bytes.{offsets, same_design}

abbrev refusals : List Fault
refusals =
    none ∷ fault 12 2 1 0 ∷ none ∷ fault 12 2 1 0 ∷ none ∷ fault 12 1 1 0 ∷ none ∷ fault 12 1 1 0
    ∷ none ∷ fault 12 2 1 0 ∷ fault 2 0 0 0 ∷ none ∷ []

-- joint B in version 1 too
refused_as : (map (λ (s : Starred). refusal_of printed s.bytes) edges ≡ refusals) × (refusal_of printed joint_b ≡ none) × (refusal4 joint_b ≡ false)
unfolding refusal_of refusal_number first_holding refusal1 refusal2 refusal3 number_at bound all_follow chained refusal4 one_if once refusal5 positions_length
    refusal6 coordinate force class_in printed_classes outline_within member_within members_within dowel_within coordinates positions_within
    loads_within fields_within outline_empty empty_outlines no_force drill_fault twos_complement i32_at part_of_pair pair_of_kind
    member_at members_in dowel_in column positions_in loads_in values_of pair_fault end_fault edge_fault verdict_in
    member_verdict spacing_verdict along_enough end_passes edge_passes first_from partner first_pair
refused_as = (refl, refl, refl)

refusal_at : (k : ℕ) → get_or (map (λ (s : Starred). refusal_of printed s.bytes) edges) k none ≡ get_or refusals k none
refusal_at k = ap (λ (l : List Fault). get_or l k none) refused_as.0

-- what the claim says of B in version 2 it says of B
as_b : (r : Report) → Judged printed (in_version 2 joint_b) r → Judged printed joint_b r
as_b r j =
    let b = refused_as.1 in
    let e = refusal_at 11 ∙ sym b in
    record {
      number = j.number ∙ ap (λ (f : Fault). f.number) e;
      member = j.member ∙ ap (λ (f : Fault). f.member) e;
      first = j.first ∙ ap (λ (f : Fault). f.first) e;
      second = j.second ∙ ap (λ (f : Fault). f.second) e;
      refused = λ n. absurd (n (ap (λ (f : Fault). f.number) b));
      accepted = λ a. subst (λ (d : Design). Answered d r) (same_design 1 0 2 0 _ (offsets 1 0 2 0 _ refused_as.2) printed)
          (j.accepted (ap (λ (f : Fault). f.number) (refusal_at 11)));
    }

pub all_edges : AllHold edges
all_edges = (
  accepted_row _ (refusal_at 0),
  (
    refused_row _ _ (refusal_at 1) (λ e. omega arith),
    (
      accepted_row _ (refusal_at 2),
      (
        refused_row _ _ (refusal_at 3) (λ e. omega arith),
        (
          accepted_row _ (refusal_at 4),
          (
            refused_row _ _ (refusal_at 5) (λ e. omega arith),
            (
              accepted_row _ (refusal_at 6),
              (
                refused_row _ _ (refusal_at 7) (λ e. omega arith),
                (
                  accepted_row _ (refusal_at 8),
                  (
                    refused_row _ _ (refusal_at 9) (λ e. omega arith),
                    (refused_row _ _ (refusal_at 10) (λ e. omega arith), (λ r j. stars.0 r (as_b r j), tt)),
                  ),
                ),
              ),
            ),
          ),
        ),
      ),
    ),
  ),
)
