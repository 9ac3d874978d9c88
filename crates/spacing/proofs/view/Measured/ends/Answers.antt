-- The bounds test what the rule tests.
use borrow.Author.Rules.{rules}
use mathlib.Core.Bool.{Bool}
use Rattle.spacing.specs.Spacing.{end_passes, square, squared_force}
use Rattle.spacing.proofs.Faults.{bounds_are}
use Rattle.spacing.proofs.view.Measured.ends.Goals as goal

pub returns : goal.returns
returns c = let m = c.args.self.now in
    let v = m.view.frame in
    bounds_are (λ (loaded : Bool). end_passes loaded m.diameter (square v.sideways) (squared_force v.force v.sideways)) v.low v.high v.force
    (search rules) (search rules) m.given.force.x_small c.between.ensures c.from_end.ensures c.from_end-2.ensures
