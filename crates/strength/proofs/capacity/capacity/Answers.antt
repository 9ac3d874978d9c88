-- The thousandths rounded down bracket R in newtons.
use Rattle.std.proofs.Common.{◌≡◌, ℕ, ◌/◌, refl}
use Rattle.strength.specs.declared.plane.Plane.{Plane}
use Rattle.strength.specs.Shear.{PlaneWithin}
use Rattle.strength.specs.Figures.{Capacity}
use Rattle.strength.specs.Working.{capacity_of}
use Rattle.strength.proofs.Capacities.{newtons_low, newtons_high}
use Rattle.strength.proofs.capacity.capacity.Goals as goal

bracketed : (p : Plane) → PlaneWithin p → (r x : ℕ) → r ≡ capacity_of p → x ≡ r / 1000 → Capacity p x
bracketed p w r x e f =
    rw (f, e) (record { low = newtons_low p w; high = newtons_high p w; is = refl })

pub returns : goal.returns
returns c = bracketed _ c.requires _ _ c.capacity_thousandths.ensures.is c.whole_newtons.ensures
