-- The dowels put so far are a run, to which the next one is added.
use borrow.Author.Rules.{rules}
use lib.IntN.{pos}
use lib.ListN.{get_or}
use mathlib.Core.List.{[], ◌∷◌}
use mathlib.Core.Path.{◌≡◌}
use mir.Syntax.{w32}
use mir.Val.{of_z, to_z}
use native.Mathlib.Numerals.{add-one}
use Rattle.numbers.specs.Fields.{field_bytes}
use Rattle.numbers.proofs.Bytes.{next}
use Rattle.joint.specs.Layout.{position_fields, columns_bytes}
use Rattle.put.proofs.Lengths.{columns_length}
use Rattle.put.proofs.put_columns.Goals as goal

pub loop-i-preserved : goal.loop-i-preserved
unfolding columns_bytes
loop-i-preserved c = let a = c.args.p.now in
    let i = c.loop-i.i in
    let x : to_z w32 (of_z w32 (get_or a.x i (pos 0))) ≡ get_or a.x i (pos 0) = search rules in
    let y : to_z w32 (of_z w32 (get_or a.y i (pos 0))) ≡ get_or a.y i (pos 0) = search rules in
    let point = field_bytes position_fields (get_or a.x i (pos 0) ∷ get_or a.y i (pos 0) ∷ []) in
    rw add-one (next c.loop-i.invariant point (columns_length a.x a.y i) (simp (x, y) at c.put_point.ensures))
