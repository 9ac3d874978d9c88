-- By what the search for each kind answered.
use mathlib.Core.Path.{◌∙◌}
use Rattle.joint.specs.declared.places.Kind.TheVariants.{Members, Dowel, Positions, Loads}
use Rattle.joint.specs.Stage.{all_found, parts_of}
use Rattle.joint.proofs.Stages.{kind_missing, is_present}
use Rattle.joint.proofs.layout.find_parts.Goals as goal

pub returns-in_err-find_part : goal.returns-in_err-find_part
returns-in_err-find_part c = c.from_residual.ensures ∙ kind_missing _ Members c.in_err-find_part.ensures

pub returns-in_err-find_part-2 : goal.returns-in_err-find_part-2
returns-in_err-find_part-2 c = c.from_residual-in_err-find_part-2.ensures ∙ kind_missing _ Dowel c.in_err-find_part-2.ensures

pub returns-in_err-find_part-3 : goal.returns-in_err-find_part-3
returns-in_err-find_part-3 c = c.from_residual-in_err-find_part-3.ensures ∙ kind_missing _ Positions c.in_err-find_part-3.ensures

pub returns-in_err-find_part-4 : goal.returns-in_err-find_part-4
returns-in_err-find_part-4 c = c.from_residual-in_err-find_part-4.ensures ∙ kind_missing _ Loads c.in_err-find_part-4.ensures

pub returns : goal.returns
unfolding all_found parts_of
returns c =
    let members = is_present _ 1 c.in_ok-find_part.ensures in
    let dowel = is_present _ 2 c.in_ok-find_part-2.ensures in
    let positions = is_present _ 3 c.in_ok-find_part-3.ensures in
    let loads = is_present _ 4 c.in_ok-find_part-4.ensures in
    simp (members.0, dowel.0, positions.0, loads.0, members.1, dowel.1, positions.1, loads.1)
