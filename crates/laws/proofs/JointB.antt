-- Joint B drawn otherwise meets the definition, by the printed table.
use Prim.Native.Nat.{ℕ, zero, suc, ◌<◌}
use mathlib.Core.Path.{◌≡◌, refl}
use native.Mathlib.Omega.{arith}
use lib.IntN.{pos, negsuc}
use Rattle.numbers.specs.Numbers.{twos_complement, i32_at, coordinate, force}
use Rattle.chain.specs.Chain.{number_at, bound, all_follow, chained}
use Rattle.codes.specs.Tables.{printed_classes}
use Rattle.tables.specs.Tests.{first_holding}
use Rattle.tables.specs.Classes.{class_in}
use Rattle.tables.specs.Table.{printed}
use Rattle.group.specs.Order.{Relisting}
use Rattle.joint.specs.Starred.{joint_b}
use Rattle.joint.specs.Layout.{part_of_pair, pair_of_kind, member_at, members_in, dowel_in, column, positions_in, loads_in, values_of}
use Rattle.joint.specs.Refusal.{refusal1, refusal2, refusal3, refusal4, one_if, once, refusal5, positions_length, refusal6}
use Rattle.joint.specs.Refusal.{outline_within, member_within, members_within, dowel_within, coordinates, positions_within, loads_within}
use Rattle.joint.specs.Refusal.{fields_within, outline_empty, empty_outlines, no_force}
use Rattle.laws.specs.Drawn.{Passes, After}
use Rattle.laws.specs.Drawn.Change.{relisted, moved, mirrored_x, mirrored_y}
use Rattle.laws.specs.Drawn.Redrawn.{as_drawn, then}
use Rattle.laws.specs.JointB.{to, from, b_mirrored, b_moved, b_relisted, b_upside_down, Drawings}

passing :
    Passes printed joint_b × Passes printed b_mirrored × Passes printed b_moved × Passes printed b_relisted × Passes printed b_upside_down
unfolding first_holding refusal1 refusal2 refusal3 number_at bound all_follow chained refusal4 one_if once refusal5 positions_length refusal6 coordinate
    force class_in printed_classes outline_within member_within members_within dowel_within coordinates positions_within loads_within fields_within
    outline_empty empty_outlines no_force twos_complement i32_at part_of_pair pair_of_kind member_at members_in dowel_in column positions_in loads_in
    values_of
passing = (refl, refl, refl, refl, refl)

-- of each number below 4
four : (P : ℕ → Type 0) → P 0 → P 1 → P 2 → P 3 → (i : ℕ) → i < 4 → P i
four P p q r s zero h = p
four P p q r s (suc zero) h = q
four P p q r s (suc (suc zero)) h = r
four P p q r s (suc (suc (suc zero))) h = s
four P p q r s (suc (suc (suc (suc i)))) h = absurd (omega arith)

as_listed : Relisting 4 (λ i. i) (λ i. i)
as_listed = record { there_within = λ i h. h; back_within = λ i h. h; back_there = λ i h. refl; there_back = λ i h. refl }

another_order : Relisting 4 to from
unfolding to from
another_order = record {
  there_within = four (λ i. to i < 4) (omega arith) (omega arith) (omega arith) (omega arith);
  back_within = four (λ i. from i < 4) (omega arith) (omega arith) (omega arith) (omega arith);
  back_there = four (λ i. from (to i) ≡ i) refl refl refl refl;
  there_back = four (λ i. to (from i) ≡ i) refl refl refl refl;
}

mirrored : After mirrored_x (values_of joint_b) (values_of b_mirrored)
unfolding twos_complement i32_at number_at part_of_pair pair_of_kind member_at members_in dowel_in column positions_in loads_in values_of
mirrored = record {
  version = refl;
  members = refl;
  dowel = refl;
  number = refl;
  order = as_listed;
  x = four _ refl refl refl refl;
  y = four _ refl refl refl refl;
  loads = refl;
}

then_moved : After (moved (pos 1000) (negsuc 499)) (values_of b_mirrored) (values_of b_moved)
unfolding twos_complement i32_at number_at part_of_pair pair_of_kind member_at members_in dowel_in column positions_in loads_in values_of
then_moved = record {
  version = refl;
  members = refl;
  dowel = refl;
  number = refl;
  order = as_listed;
  x = four _ refl refl refl refl;
  y = four _ refl refl refl refl;
  loads = refl;
}

then_relisted : After (relisted to from) (values_of b_moved) (values_of b_relisted)
unfolding twos_complement i32_at number_at part_of_pair pair_of_kind member_at members_in dowel_in column positions_in loads_in values_of to from
then_relisted = record {
  version = refl;
  members = refl;
  dowel = refl;
  number = refl;
  order = another_order;
  x = four _ refl refl refl refl;
  y = four _ refl refl refl refl;
  loads = refl;
}

then_mirrored : After mirrored_y (values_of b_relisted) (values_of b_upside_down)
unfolding twos_complement i32_at number_at part_of_pair pair_of_kind member_at members_in dowel_in column positions_in loads_in values_of
then_mirrored = record {
  version = refl;
  members = refl;
  dowel = refl;
  number = refl;
  order = as_listed;
  x = four _ refl refl refl refl;
  y = four _ refl refl refl refl;
  loads = refl;
}

pub drawings : Drawings printed
drawings =
    let p = passing in
    record {
      passes = p.0;
      in_x = mirrored;
      offset = then_moved;
      order = then_relisted;
      in_y = then_mirrored;
      otherwise =
          then b_relisted b_upside_down
          (then b_moved b_relisted
          (then b_mirrored b_moved (then joint_b b_mirrored as_drawn p.1 (mirrored_x, mirrored)) p.2 (moved (pos 1000) (negsuc 499), then_moved))
          p.3 (relisted to from, then_relisted))
          p.4 (mirrored_y, then_mirrored);
    }
