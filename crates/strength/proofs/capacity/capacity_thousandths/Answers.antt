-- The figure is that of the definition, which brackets R.
use Rattle.std.proofs.Common.{◌≡◌, ℕ, min, ap, ◌∙◌}
use Rattle.strength.specs.declared.plane.Plane.{Plane}
use Rattle.strength.specs.Shear.{PlaneWithin}
use Rattle.strength.specs.Figures.{CapacityThousandths}
use Rattle.strength.specs.Working.{capacity_of}
use Rattle.strength.proofs.Capacities.{capacity_low, capacity_high}
use Rattle.strength.proofs.Joins.{first_within, portion_s, portion_c, force_1, force_2, root_fits, gathered}
use Rattle.strength.proofs.capacity.capacity_thousandths.Goals as goal

bracketed : (p : Plane) → PlaneWithin p → (r : ℕ) → r ≡ capacity_of p → CapacityThousandths p r
bracketed p w r e = record { low = rw e (capacity_low p w); high = rw e (capacity_high p w); is = e }

pub first_term-by_dowel-requires : goal.first_term-by_dowel-requires
first_term-by_dowel-requires c = first_within c.requires c.join-j.ensures c.yield_moment-m.ensures.is

pub invariant_of-side : goal.invariant_of-side
invariant_of-side c = record { within = force_1 c.requires c.join-j.ensures }

pub invariant_of-other : goal.invariant_of-other
invariant_of-other c = record { within = force_2 c.requires c.join-j.ensures }

pub share_root-side_root-requires : goal.share_root-side_root-requires
share_root-side_root-requires c = portion_s c.requires c.join-j.ensures

pub wedge-by_side-requires : goal.wedge-by_side-requires
wedge-by_side-requires c = root_fits (portion_s c.requires c.join-j.ensures) c.share_root-side_root.ensures

pub third-by_other-requires : goal.third-by_other-requires
third-by_other-requires c = portion_c c.requires c.join-j.ensures

pub returns : goal.returns
returns c = bracketed _ c.requires _
    (gathered c.requires c.join-j.ensures _ _ _ _ _ c.yield_moment-m.ensures.is c.first_term-by_dowel.ensures
    (rw c.share_root-side_root.ensures at c.wedge-by_side.ensures) c.third-by_other.ensures
    (c.min-2.ensures ∙ ap (λ (z : ℕ). min z c.third-by_other.result) c.min.ensures))
