-- Nobody needs to believe this: what the steps of the entries for C promise one another.
use Rattle.std.specs.Prelude.{◌≡◌, List, ℤ}
use Rattle.joint.specs.declared.Values.{Values}
use Rattle.writer.specs.Read.{marks_of}
use Rattle.lent.specs.Lent.{front}

-- the dowels' slices
pub record Placed (v : Values) (x y marks xExit yExit marksExit : List ℤ) : Type 0 where
  pub x_front : xExit ≡ front v.positions.x x
  pub y_front : yExit ≡ front v.positions.y y
  pub marks_front : marksExit ≡ front (marks_of v) marks
