-- Joint B of 01 drawn otherwise: mirrored in x; then moved by (1,000, -500); then its dowels 3, 1, 4, 2 listed as 1 to 4; then mirrored in y.
use Rattle.std.specs.Prelude.{ℕ, zero, suc, List, [], ◌∷◌, pos, negsuc}
use Rattle.tables.specs.Table.{Table}
use Rattle.joint.specs.Layout.{values_of}
use Rattle.joint.specs.Starred.{record_of, joint_b, header_b, dowel_b}
use Rattle.laws.specs.Drawn.{After, Passes, Redrawn}
use Rattle.laws.specs.Drawn.Change.{relisted, moved, mirrored_x, mirrored_y}

-- member 1 x -20,000 to 840, member 2 x -1,440 to 20,000, both y -360 to 720;
-- dowels (0, 0), (-600, 0), (0, 360), (-600, 360); force (-20,000, 0)
abbrev pub members_mirrored : List ℕ
members_mirrored =
    1 ∷ 2
    ∷ 1 ∷ 0 ∷ 88 ∷ 2 ∷ 224 ∷ 177 ∷ 255 ∷ 255 ∷ 152 ∷ 254 ∷ 255 ∷ 255 ∷ 72 ∷ 3 ∷ 0 ∷ 0 ∷ 208 ∷ 2 ∷ 0 ∷ 0
    ∷ 1 ∷ 0 ∷ 32 ∷ 3 ∷ 96 ∷ 250 ∷ 255 ∷ 255 ∷ 152 ∷ 254 ∷ 255 ∷ 255 ∷ 32 ∷ 78 ∷ 0 ∷ 0 ∷ 208 ∷ 2 ∷ 0 ∷ 0 ∷ []

abbrev pub positions_mirrored : List ℕ
positions_mirrored =
    3 ∷ 4
    ∷ 0 ∷ 0 ∷ 0 ∷ 0 ∷ 0 ∷ 0 ∷ 0 ∷ 0 ∷ 168 ∷ 253 ∷ 255 ∷ 255 ∷ 0 ∷ 0 ∷ 0 ∷ 0
    ∷ 0 ∷ 0 ∷ 0 ∷ 0 ∷ 104 ∷ 1 ∷ 0 ∷ 0 ∷ 168 ∷ 253 ∷ 255 ∷ 255 ∷ 104 ∷ 1 ∷ 0 ∷ 0 ∷ []

abbrev pub loads_mirrored : List ℕ
loads_mirrored = 4 ∷ 1 ∷ 3 ∷ 224 ∷ 177 ∷ 255 ∷ 255 ∷ 0 ∷ 0 ∷ 0 ∷ 0 ∷ []

abbrev pub b_mirrored : List ℕ
b_mirrored = record_of header_b members_mirrored dowel_b positions_mirrored loads_mirrored

-- member 1 x -19,000 to 1,840, member 2 x -440 to 21,000, both y -860 to 220;
-- dowels (1,000, -500), (400, -500), (1,000, -140), (400, -140)
abbrev pub members_moved : List ℕ
members_moved =
    1 ∷ 2
    ∷ 1 ∷ 0 ∷ 88 ∷ 2 ∷ 200 ∷ 181 ∷ 255 ∷ 255 ∷ 164 ∷ 252 ∷ 255 ∷ 255 ∷ 48 ∷ 7 ∷ 0 ∷ 0 ∷ 220 ∷ 0 ∷ 0 ∷ 0
    ∷ 1 ∷ 0 ∷ 32 ∷ 3 ∷ 72 ∷ 254 ∷ 255 ∷ 255 ∷ 164 ∷ 252 ∷ 255 ∷ 255 ∷ 8 ∷ 82 ∷ 0 ∷ 0 ∷ 220 ∷ 0 ∷ 0 ∷ 0 ∷ []

abbrev pub positions_moved : List ℕ
positions_moved =
    3 ∷ 4
    ∷ 232 ∷ 3 ∷ 0 ∷ 0 ∷ 12 ∷ 254 ∷ 255 ∷ 255 ∷ 144 ∷ 1 ∷ 0 ∷ 0 ∷ 12 ∷ 254 ∷ 255 ∷ 255
    ∷ 232 ∷ 3 ∷ 0 ∷ 0 ∷ 116 ∷ 255 ∷ 255 ∷ 255 ∷ 144 ∷ 1 ∷ 0 ∷ 0 ∷ 116 ∷ 255 ∷ 255 ∷ 255 ∷ []

abbrev pub b_moved : List ℕ
b_moved = record_of header_b members_moved dowel_b positions_moved loads_mirrored

-- dowels (1,000, -140), (1,000, -500), (400, -140), (400, -500): those counted 2, 0, 3, 1 before
unfoldable pub to : ℕ → ℕ
to zero = 2
to (suc zero) = 0
to (suc (suc zero)) = 3
to (suc (suc (suc i))) = 1

unfoldable pub from : ℕ → ℕ
from zero = 1
from (suc zero) = 3
from (suc (suc zero)) = 0
from (suc (suc (suc i))) = 2

abbrev pub positions_relisted : List ℕ
positions_relisted =
    3 ∷ 4
    ∷ 232 ∷ 3 ∷ 0 ∷ 0 ∷ 116 ∷ 255 ∷ 255 ∷ 255 ∷ 232 ∷ 3 ∷ 0 ∷ 0 ∷ 12 ∷ 254 ∷ 255 ∷ 255
    ∷ 144 ∷ 1 ∷ 0 ∷ 0 ∷ 116 ∷ 255 ∷ 255 ∷ 255 ∷ 144 ∷ 1 ∷ 0 ∷ 0 ∷ 12 ∷ 254 ∷ 255 ∷ 255 ∷ []

abbrev pub b_relisted : List ℕ
b_relisted = record_of header_b members_moved dowel_b positions_relisted loads_mirrored

-- both y -220 to 860; dowels (1,000, 140), (1,000, 500), (400, 140), (400, 500); fy is 0 and stays so
abbrev pub members_upside_down : List ℕ
members_upside_down =
    1 ∷ 2
    ∷ 1 ∷ 0 ∷ 88 ∷ 2 ∷ 200 ∷ 181 ∷ 255 ∷ 255 ∷ 36 ∷ 255 ∷ 255 ∷ 255 ∷ 48 ∷ 7 ∷ 0 ∷ 0 ∷ 92 ∷ 3 ∷ 0 ∷ 0
    ∷ 1 ∷ 0 ∷ 32 ∷ 3 ∷ 72 ∷ 254 ∷ 255 ∷ 255 ∷ 36 ∷ 255 ∷ 255 ∷ 255 ∷ 8 ∷ 82 ∷ 0 ∷ 0 ∷ 92 ∷ 3 ∷ 0 ∷ 0 ∷ []

abbrev pub positions_upside_down : List ℕ
positions_upside_down =
    3 ∷ 4
    ∷ 232 ∷ 3 ∷ 0 ∷ 0 ∷ 140 ∷ 0 ∷ 0 ∷ 0 ∷ 232 ∷ 3 ∷ 0 ∷ 0 ∷ 244 ∷ 1 ∷ 0 ∷ 0
    ∷ 144 ∷ 1 ∷ 0 ∷ 0 ∷ 140 ∷ 0 ∷ 0 ∷ 0 ∷ 144 ∷ 1 ∷ 0 ∷ 0 ∷ 244 ∷ 1 ∷ 0 ∷ 0 ∷ []

abbrev pub b_upside_down : List ℕ
b_upside_down = record_of header_b members_upside_down dowel_b positions_upside_down loads_mirrored

-- B passes 1 to 9; each kind of change is met, by one step; and so B is drawn otherwise by all four, each of which passes 1 to 9
pub record Drawings (t : Table) : Type 0 where
  pub passes : Passes t joint_b
  pub in_x : After mirrored_x (values_of joint_b) (values_of b_mirrored)
  pub offset : After (moved (pos 1000) (negsuc 499)) (values_of b_mirrored) (values_of b_moved)
  pub order : After (relisted to from) (values_of b_moved) (values_of b_relisted)
  pub in_y : After mirrored_y (values_of b_relisted) (values_of b_upside_down)
  pub otherwise : Redrawn t joint_b b_upside_down
