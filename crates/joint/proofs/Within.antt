-- The plane and the use of an accepted record lie within the ranges of the capacity and of the use.
use Prim.Native.Nat.{ℕ, zero, suc, ◌+◌, ◌*◌, ◌%◌, ◌≤◌, ◌<◌}
use mathlib.Core.Path.{◌≡◌, refl}
use mathlib.Core.Bool.{Bool, true, false, cond, ◌&&◌, and-eq-true_iff}
use native.Mathlib.Omega.{arith}
use native.Mathlib.Nat.{mul-le-mul, mul-pos}
use borrow.Author.Tests.{eqb-true}
use lib.Dec.{eqb}
use lib.IntN.{nat_abs}
use Rattle.codes.specs.Tables.{steel_of, kmod_of, listed}
use Rattle.codes.proofs.Woods.{k90_low, k90_high}
use Rattle.tables.specs.Classes.{Sound}
use Rattle.tables.specs.Table.{Table, wood_of}
use Rattle.strength.specs.Shear.{MemberWithin, PlaneWithin}
use Rattle.spacing.specs.Spacing.{squared_force, Components}
use Rattle.group.specs.Share.{all_to}
use Rattle.group.proofs.Shares.{all_at}
use Rattle.joint.specs.declared.Member.{Member}
use Rattle.joint.specs.declared.Values.{Values}
use Rattle.joint.specs.Refusal.{between}
use Rattle.joint.specs.DesignOf.{force_along, plane_member, plane_in, plane_of, kmod_in}
use Rattle.joint.specs.Returned.{MemberHolds, FieldsHold, CheckWithin, twice_planes}
use Rattle.joint.proofs.Accepted.{between_low, between_high}

-- ---- tables: one computed test over the codes from 1 to k, and one law
coded : (test : ℕ → Bool) (k : ℕ) → all_to (λ c. test (suc c)) k ≡ true → (c : ℕ) → 1 ≤ c → c ≤ k → test c ≡ true
coded test k h zero l m = absurd (omega arith)
coded test k h (suc c) l m = all_at (λ c. test (suc c)) k h c m

steel_test : ℕ → Bool
steel_test c = between 300 800 (listed (steel_of c))

steel_tested : (c : ℕ) → 1 ≤ c → c ≤ 3 → steel_test c ≡ true
unfolding all_to steel_test steel_of
steel_tested = coded steel_test 3 refl

-- kmod in hundredths is from 50 to 110 and a multiple of 5
kmod_test : ℕ → ℕ → Bool
kmod_test s t = between 50 110 (listed (kmod_of s t)) && eqb (listed (kmod_of s t) % 5) 0

durations_test : ℕ → Bool
durations_test s = all_to (λ t. kmod_test s (suc t)) 5

kmod_tested : (s t : ℕ) → 1 ≤ s → s ≤ 3 → 1 ≤ t → t ≤ 5 → kmod_test s t ≡ true
unfolding all_to durations_test kmod_test kmod_of
kmod_tested s t sl sh = coded (kmod_test s) 5 (coded durations_test 3 refl s sl sh) t

-- ---- the force
total_some : (x y : ℕ) → 0 < x + y → 1 ≤ x * x + y * y
total_some zero zero h = absurd (omega arith)
total_some zero (suc y) h = omega arith
total_some (suc x) y h = omega arith

module _ (t : Table) (v : Values) (f : FieldsHold t v) (g : Components v.dowel.diameter v.loads.fx v.loads.fy) where
  abbrev total : ℕ
  total = squared_force v.loads.fx v.loads.fy

  pub total_low : 1 ≤ total
  total_low = total_some (nat_abs v.loads.fx) (nat_abs v.loads.fy) g.some

  pub total_small : total ≤ 2000000000000
  total_small = omega (arith, mul-le-mul g.x_small g.x_small, mul-le-mul g.y_small g.y_small)

  pub along_small : (m : Member) → force_along v.loads m ≤ 1000000
  along_small m = go (eqb m.grain 0)
    where
      go : (b : Bool) → nat_abs (cond b v.loads.fx v.loads.fy) ≤ 1000000
      go true = g.x_small
      go false = g.y_small

  along_part : (m : Member) → force_along v.loads m * force_along v.loads m ≤ total
  along_part m = go (eqb m.grain 0)
    where
      go : (b : Bool) → nat_abs (cond b v.loads.fx v.loads.fy) * nat_abs (cond b v.loads.fx v.loads.fy) ≤ total
      go true = omega arith
      go false = omega arith

  -- ---- the plane
  member_within_lem : Sound t.classes → (m : Member) → MemberHolds t m
      → MemberWithin (plane_member t v.dowel.diameter m (force_along v.loads m) total)
  member_within_lem s m h =
      let kind = (wood_of t m.class).kind in
      record {
        density_low = s.density_low m.class h.class;
        density_high = s.density_high m.class h.class;
        k90_low = k90_low kind v.dowel.diameter f.diameter_low;
        k90_high = k90_high kind v.dowel.diameter f.diameter_high;
        angle = along_part m;
        force = total_low;
        force_high = omega (arith, total_small);
        thickness_low = h.thickness_low;
        thickness_high = h.thickness_high;
      }

  pub plane_within : Sound t.classes → PlaneWithin (plane_of t v.members v.dowel v.loads)
  unfolding plane_in steel_test
  plane_within s =
      let k = steel_tested v.dowel.steel f.steel_low f.steel_high in
      record {
        member1 = member_within_lem s v.members.member1 f.member1;
        member2 = member_within_lem s v.members.member2 f.member2;
        dowel = record {
          diameter_low = f.diameter_low;
          diameter_high = f.diameter_high;
          steel_low = between_low 300 800 (listed (steel_of v.dowel.steel)) k;
          steel_high = between_high 300 800 (listed (steel_of v.dowel.steel)) k;
        };
        planes_low = f.planes_low;
        planes_high = f.planes_high;
      }

  -- ---- the use
  kmod_parts : (between 50 110 (kmod_in v.loads) ≡ true) × (eqb (kmod_in v.loads % 5) 0 ≡ true)
  unfolding kmod_test
  kmod_parts =
      (and-eq-true_iff _ _).0
      (kmod_tested v.loads.service_class v.loads.duration f.service_low f.service_high f.duration_low f.duration_high)

  pub check_within :
      (c : ℕ) → 1000 ≤ c → c ≤ 12000000000 →
      CheckWithin (twice_planes v.positions.n v.members.planes) (kmod_in v.loads) c
  check_within c low high = record {
    planes_low = planes_low (eqb v.positions.n 1);
    planes_high = planes_high (eqb v.positions.n 1);
    kmod_low = between_low 50 110 (kmod_in v.loads) kmod_parts.0;
    kmod_high = between_high 50 110 (kmod_in v.loads) kmod_parts.0;
    kmod_fifth = eqb-true (kmod_in v.loads % 5) 0 kmod_parts.1;
    capacity_low = low;
    capacity_high = high;
  }
    where
      planes_low : (b : Bool) → 1 ≤ cond b v.members.planes (2 * (v.positions.n * v.members.planes))
      planes_low true = f.planes_low
      planes_low false = omega (arith, mul-pos f.dowels_low f.planes_low)

      planes_high : (b : Bool) → cond b v.members.planes (2 * (v.positions.n * v.members.planes)) ≤ 256
      planes_high true = omega (arith, f.planes_high)
      planes_high false = omega (arith, mul-le-mul f.dowels_high f.planes_high)
