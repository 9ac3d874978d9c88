-- The bounds test what the rule tests.
use borrow.Author.Rules.{rules}
use mathlib.Core.Bool.{Bool}
use Rattle.spacing.specs.Spacing.{edge_passes, square, squared_force}
use Rattle.spacing.proofs.Faults.{bounds_are}
use Rattle.spacing.proofs.view.Measured.edges.Goals as goal

pub returns : goal.returns
returns c = let m = c.args.self.now in
    let v = m.view.frame in
    bounds_are (λ (loaded : Bool). edge_passes m.rule loaded m.diameter (square v.sideways) (squared_force v.force v.sideways)) v.left v.right v.sideways
    (search rules) (search rules) m.given.force.y_small c.between.ensures c.from_edge.ensures c.from_edge-2.ensures
