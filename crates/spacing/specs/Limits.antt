-- What the parts of the search answer: whole limits in the place of the irrational ones. Nobody needs to believe this: the
-- verdict is claimed by the rules of Spacing.
use Rattle.std.specs.Prelude.{ℕ, ◌*◌, ◌≤◌, ◌<◌, ◌≡◌, Bool, not, ◌&&◌, ◌||◌, List, leb, ℤ, pos}
use Rattle.std.specs.Int.Signed.{le_z}
use Rattle.spacing.specs.declared.edge.EdgeRule.{EdgeRule}
use Rattle.spacing.specs.declared.view.Frame.{Frame}
use Rattle.spacing.specs.Spacing.{square, squared_force, place, distance, along_enough, end_passes, edge_passes}

-- the root of part/total taken k times can be worked out in 64 bits
pub record Scale (k part total : ℕ) : Type 0 where
  pub factor : k ≤ 2100
  pub most : part ≤ total
  pub force : 0 < total
  pub small : total ≤ 2000000000000

-- r is the least e with k² part ≤ e² total
pub record LeastPart (k part total r : ℕ) : Type 0 where
  pub decides : (e : ℕ) → leb (k * k * part) (e * e * total) ≡ leb r e

-- r is the least distance along that two dowels may have
pub record PairLimit (d part total r : ℕ) : Type 0 where
  pub decides : (a : ℕ) → along_enough d part total a ≡ leb r a

-- r is the least distance that passes from a side, and so small that it can be added to a coordinate in 64 bits
pub record SideLimit (passes : ℤ → Bool) (r : ℕ) : Type 0 where
  pub decides : (z : ℤ) → passes z ≡ le_z (pos r) z
  pub small : r ≤ 2100

-- from an end of a member, and from an edge, loaded or not
abbrev pub EndLimit : Frame → ℕ → Bool → ℕ → Type 0
EndLimit v d loaded = SideLimit (end_passes loaded d (square v.sideways) (squared_force v.force v.sideways))

abbrev pub EdgeLimit : EdgeRule → Frame → ℕ → Bool → ℕ → Type 0
EdgeLimit rule v d loaded = SideLimit (edge_passes rule loaded d (square v.sideways) (squared_force v.force v.sideways))

-- distances a along and b across are below both limits
abbrev pub nearer_by : ℕ → ℕ → ℕ → ℕ → Bool
nearer_by along across a b = not (leb along a || leb across b)

abbrev pub close_by : ℕ → ℕ → List ℤ → List ℤ → ℕ → ℕ → Bool
close_by along across a b i j = nearer_by along across (distance a i j) (distance b i j)

-- z lies below the least coordinate that passes or above the greatest
abbrev pub past : ℤ → ℤ → ℤ → Bool
past least greatest z = not (le_z least z && le_z z greatest)

abbrev pub outside : ℤ → ℤ → List ℤ → ℕ → Bool
outside least greatest v i = past least greatest (place v i)
