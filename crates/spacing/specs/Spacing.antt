-- Spacing of the dowels of a member (01, 'Spacing (000, Table 8)'; 02, A7: the edges by EN 1995-1-1, Table 8.5). Lengths are tenths of a
-- millimetre, d is in mm, forces in N. All comparisons are exact. Irrational limits are met through their squares.
use Rattle.std.specs.Prelude.{ℕ, ◌+◌, ◌-◌, ◌*◌, ◌≤◌, ◌<◌, Bool, cond, not, ◌&&◌, ◌||◌, List, get_or, leb, eqb, ℤ, pos, neg_ℤ, nat_abs, ◌-ℤ◌}
use Rattle.std.specs.Int.Signed.{le_z}
use Rattle.spacing.specs.declared.edge.EdgeRule.{EdgeRule}
use Rattle.spacing.specs.declared.edge.EdgeRule.TheVariants.{Table8, Eurocode}
use Rattle.spacing.specs.declared.view.Which.{Which}
use Rattle.spacing.specs.declared.view.Which.TheVariants.{Member1, Member2}
use Rattle.spacing.specs.declared.view.Piece.{Piece}
use Rattle.spacing.specs.declared.view.Frame.{Frame}
use Rattle.spacing.specs.declared.view.View.{View}

-- 'Along' is measured in a member's grain direction, 'across' at right angles. Grain 0 is along x, 1 along y (01, 'The record').
abbrev pub along : {A : Type 0} → ℕ → A → A → A
along grain x y = cond (eqb grain 0) x y

abbrev pub across : {A : Type 0} → ℕ → A → A → A
across grain x y = cond (eqb grain 0) y x

-- The dowels put (fx, fy) into member 2. Member 1 gets the opposite.
abbrev pub force_in : Which → ℤ → ℤ
force_in Member1 f = neg_ℤ f
force_in Member2 f = f

-- What a member measures along and across its grain: its ends, its edges and the force in it; and the dowels' coordinates.
abbrev pub frame_of : Which → Piece → ℤ → ℤ → Frame
frame_of which m fx fy = record {
  low = along m.grain m.x0 m.y0;
  high = along m.grain m.x1 m.y1;
  left = across m.grain m.x0 m.y0;
  right = across m.grain m.x1 m.y1;
  force = force_in which (along m.grain fx fy);
  sideways = force_in which (across m.grain fx fy);
}

abbrev pub view_of : Which → Piece → ℤ → ℤ → List ℤ → List ℤ → View
view_of which m fx fy x y =
    record { frame = frame_of which m fx fy; along = along m.grain x y; across = across m.grain x y }

-- α is the angle between force and grain: cos²α is the squared component along, sin²α the squared component across, each over
-- the squared force fx² + fy².
abbrev pub square : ℤ → ℕ
square z = nat_abs z * nat_abs z

abbrev pub squared_force : ℤ → ℤ → ℕ
squared_force fx fy = square fx + square fy

-- where dowel i lies in a list of coordinates; the distance of dowels i and j
abbrev pub place : List ℤ → ℕ → ℤ
place v i = get_or v i (pos 0)

abbrev pub distance : List ℤ → ℕ → ℕ → ℕ
distance v i j = nat_abs (place v i -ℤ place v j)

-- Two dowels: along at least (3 + 2 cos α) d, or across at least 3d. A distance a along reaches 30 d + 20 d cos α tenths where
-- a - 30 d is not negative and its square is at least (20 d)² cos²α, with cos²α = part/total.
unfoldable pub along_enough : ℕ → ℕ → ℕ → ℕ → Bool
along_enough d part total a =
    leb (30 * d) a && leb (20 * d * (20 * d) * part) ((a - 30 * d) * (a - 30 * d) * total)

abbrev pub pair_passes : Frame → ℕ → ℕ → ℕ → Bool
pair_passes v d a b = along_enough d (square v.force) (squared_force v.force v.sideways) a || leb (30 * d) b

-- The end towards which the force in this member has a component: at least 7d and at least 80 mm. Another end: at least
-- 7d sin α and at least 3d. A distance z is negative outside; sin²α = part/total.
unfoldable pub end_passes : Bool → ℕ → ℕ → ℕ → ℤ → Bool
end_passes loaded d part total z =
    cond loaded
    (le_z (pos (70 * d)) z && le_z (pos 800) z)
    (leb (70 * d * (70 * d) * part) (square z * total) && le_z (pos (30 * d)) z)

-- Ends lie across the grain. The low one is loaded where the force along is below 0, the high one where it is above 0.
abbrev pub ends_pass : Frame → ℕ → ℤ → Bool
ends_pass v d a =
    end_passes (le_z (pos 1) (neg_ℤ v.force)) d (square v.sideways) (squared_force v.force v.sideways) (a -ℤ v.low)
    && end_passes (le_z (pos 1) v.force) d (square v.sideways) (squared_force v.force v.sideways) (v.high -ℤ a)

-- Both edges: at least 3d. By EN 1995-1-1, Table 8.5 (02, A7) 'a loaded edge needs (2 + 2 sin α) d and at least 3d', 'the other needs 3d'. A
-- distance z reaches 20 d + 20 d sin α tenths where z - 20 d is not negative and its square is at least (20 d)² sin²α, with
-- sin²α = part/total.
unfoldable pub edge_passes : EdgeRule → Bool → ℕ → ℕ → ℕ → ℤ → Bool
edge_passes Table8 loaded d part total z = le_z (pos (30 * d)) z
edge_passes Eurocode loaded d part total z =
    cond loaded
    (le_z (pos (20 * d)) z && leb (20 * d * (20 * d) * part) (square (z -ℤ pos (20 * d)) * total)
    && le_z (pos (30 * d)) z)
    (le_z (pos (30 * d)) z)

-- Edges lie along the grain. 'The edge towards which the force in that member has a component is the loaded one': the left one where the
-- force across is below 0, the right one where it is above 0.
abbrev pub edges_pass : EdgeRule → Frame → ℕ → ℤ → Bool
edges_pass rule v d b =
    edge_passes rule (le_z (pos 1) (neg_ℤ v.sideways)) d (square v.sideways) (squared_force v.force v.sideways) (b -ℤ v.left)
    && edge_passes rule (le_z (pos 1) v.sideways) d (square v.sideways) (squared_force v.force v.sideways) (v.right -ℤ b)

-- The rules at the dowels of a record, with a their coordinates along and b across.
abbrev pub too_close : Frame → ℕ → List ℤ → List ℤ → ℕ → ℕ → Bool
too_close v d a b i j = not (pair_passes v d (distance a i j) (distance b i j))

abbrev pub end_too_near : Frame → ℕ → List ℤ → ℕ → Bool
end_too_near v d a i = not (ends_pass v d (place a i))

abbrev pub edge_too_near : EdgeRule → Frame → ℕ → List ℤ → ℕ → Bool
edge_too_near rule v d b i = not (edges_pass rule v d (place b i))

-- What the record's limits guarantee and the search needs: the diameter, the components of a force, not both 0, the number
-- of dowels.
pub record Components (d : ℕ) (fx fy : ℤ) : Type 0 where
  pub thick : d ≤ 30
  pub x_small : nat_abs fx ≤ 1000000
  pub y_small : nat_abs fy ≤ 1000000
  pub some : 0 < nat_abs fx + nat_abs fy

pub record Given (d : ℕ) (fx fy : ℤ) (count : ℕ) : Type 0 where
  pub force : Components d fx fy
  pub most : count ≤ 64
