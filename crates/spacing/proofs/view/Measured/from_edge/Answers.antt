-- By Eurocode a loaded edge asks the greater of 30 d and 20 d with the least part; each other edge asks 30 d.
use native.Mathlib.Omega.{arith}
use Rattle.spacing.proofs.Limits.{least_part_bound, part_read, plain_edge, table8_edge, loaded_edge}
use Rattle.spacing.proofs.view.Measured.from_edge.Goals as goal

pub returns-then-not-loaded : goal.returns-then-not-loaded
returns-then-not-loaded c = rw c.if-not-loaded.true (plain_edge _ _ _ _ c.args.self.now.given.force.thick)

pub overflow_add-d : goal.overflow_add-d
overflow_add-d c = let v = c.args.self.now.view.frame in
    let g = c.args.self.now.given.force in
    let l = part_read v.force v.sideways v.sideways g g.y_small c.square.ensures c.squared_force-total.ensures c.least_part-sideways.ensures in
    record { fits = omega (arith, least_part_bound l (omega arith), g.thick) }

pub returns-in-Table8 : goal.returns-in-Table8
returns-in-Table8 c = rw c.in-Table8.is (table8_edge _ _ _ _ c.args.self.now.given.force.thick)

pub returns-in-Eurocode : goal.returns-in-Eurocode
returns-in-Eurocode c = let v = c.args.self.now.view.frame in
    let g = c.args.self.now.given.force in
    rw (c.in-Eurocode.is, c.if-not-loaded.false, c.max.ensures)
    (loaded_edge _ _ _ _ g.thick (omega arith)
    (part_read v.force v.sideways v.sideways g g.y_small c.square.ensures c.squared_force-total.ensures c.least_part-sideways.ensures))
