-- The limit is 30 d and the least part.
use native.Mathlib.Omega.{arith}
use Rattle.spacing.proofs.Limits.{squares, pair_limit, least_part_bound, part_read}
use Rattle.spacing.proofs.view.Measured.between_dowels.Goals as goal

pub overflow_add-result : goal.overflow_add-result
overflow_add-result c = let m = c.args.self.now in
    let v = m.view.frame in
    let g = m.given.force in
    let q = squares g in
    let l = part_read v.force v.sideways v.force g g.x_small c.square.ensures c.squared_force-total.ensures c.least_part.ensures in
    record { fits = omega (arith, least_part_bound l (omega arith), g.thick) }

pub returns : goal.returns
returns c = let m = c.args.self.now in
    let v = m.view.frame in
    let g = m.given.force in
    pair_limit _ _ _ _ (part_read v.force v.sideways v.force g g.x_small c.square.ensures c.squared_force-total.ensures c.least_part.ensures)
