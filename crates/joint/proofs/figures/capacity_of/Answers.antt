-- The plane handed on is the one put together from its parts.
use Prim.Native.Nat.{ℕ}
use mathlib.Core.Path.{◌≡◌, ◌∙◌, ap, subst⁻¹}
use Rattle.strength.specs.Shear.{PlaneWithin}
use Rattle.strength.specs.Working.{capacity_of}
use Rattle.strength.specs.declared.plane.Plane.{Plane}
use Rattle.strength.specs.declared.plane.Timber.{Timber}
use Rattle.codes.specs.Tables.{listed, steel_of}
use Rattle.joint.specs.DesignOf.{plane_member, plane_in}
use Rattle.tables.specs.Table.{Table}
use Rattle.joint.specs.declared.Members.{Members}
use Rattle.joint.specs.declared.Dowel.{Dowel}
use Rattle.joint.proofs.figures.capacity_of.Goals as goal

plane_is : (t : Table) (m : Members) (w : Dowel) (total c1 c2 : ℕ) {fu : ℕ} {t1 t2 : Timber} → t1 ≡ plane_member t w.diameter m.member1 c1 total
    → t2 ≡ plane_member t w.diameter m.member2 c2 total → fu ≡ listed (steel_of w.steel)
    → ◌≡◌ {A = Plane} (record { member1 = t1; member2 = t2; diameter = w.diameter; steel = fu; planes = m.planes }) (plane_in t m w total c1 c2)
unfolding plane_in
plane_is t m w total c1 c2 p q r = λ i. record { member1 = p i; member2 = q i; diameter = w.diameter; steel = r i; planes = m.planes }

pub capacity_thousandths-requires : goal.capacity_thousandths-requires
capacity_thousandths-requires c =
    subst⁻¹ PlaneWithin (plane_is _ _ _ _ _ _ c.plane_member.ensures c.plane_member-2.ensures (c.unwrap_or.ensures ∙ ap listed c.steel_strength.ensures))
    c.requires.plane_within

pub returns : goal.returns
returns c =
    c.capacity_thousandths.ensures.is
    ∙ ap capacity_of (plane_is _ _ _ _ _ _ c.plane_member.ensures c.plane_member-2.ensures (c.unwrap_or.ensures ∙ ap listed c.steel_strength.ensures))
