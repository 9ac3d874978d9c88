-- A loaded end asks the greater of two whole numbers, another one the greater of 30 d and the least part.
use native.Mathlib.Omega.{arith}
use Rattle.spacing.proofs.Limits.{loaded_limit, other_limit, part_read}
use Rattle.spacing.proofs.view.Measured.from_end.Goals as goal

pub returns-then-loaded : goal.returns-then-loaded
returns-then-loaded c = rw (c.if-loaded.true, c.max.ensures) (loaded_limit _ _ _ c.args.self.now.given.force.thick)

pub returns : goal.returns
returns c = let m = c.args.self.now in
    let v = m.view.frame in
    let g = m.given.force in
    rw (c.if-loaded.false, c.max-2.ensures)
    (other_limit _ _ _ _ g.thick (omega arith)
    (part_read v.force v.sideways v.sideways g g.y_small c.square.ensures c.squared_force-total.ensures c.least_part.ensures))
