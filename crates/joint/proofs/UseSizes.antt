-- How large the numbers of the use are, within its ranges.
use Prim.Native.Nat.{ℕ, ◌*◌, ◌/◌, ◌≤◌, ◌<◌}
use native.Mathlib.Omega.{arith}
use native.Mathlib.Nat.{mul-pos, mul-le-mul}
use lib.Dec.{lit<}
use Rattle.strength.specs.Working.{square_root_of}
use Rattle.strength.proofs.Greatest.{square_root_of_lem}
use Rattle.wide.proofs.Powers.{square_lt}
use Rattle.group.specs.declared.member.Taken.{Taken}
use Rattle.joint.specs.Returned.{Demand, scaled_force_of, RowWithin, DemandWithin}

-- a force in 1024ths of a newton
pub scaled_small : (total : ℕ) → total ≤ 2000000000000 → scaled_force_of total ≤ 1448154690
unfolding scaled_force_of
scaled_small total h =
    let r = square_root_of_lem (1048576 * total) (omega arith) in
    omega (arith, square_lt (square_root_of (1048576 * total)) 1448154689 (omega (arith, r.low)))

module _ (d : Demand) (w : DemandWithin d) where
  pub total_some : 0 < 1024 * (d.planes2 * d.kmod) * d.capacity
  total_some =
      mul-pos (mul-pos (lit< tt) (mul-pos w.check.planes_low (omega (arith, w.check.kmod_low))))
      (omega (arith, w.check.capacity_low))

  pub planes_fifth : d.planes2 * (d.kmod / 5) ≤ 5632
  planes_fifth = mul-le-mul {m₂ = 22} w.check.planes_high (omega (arith, w.check.kmod_high))

  module _ (m : Taken) (r : RowWithin m) where
    pub planes_share : d.planes2 * (d.kmod / 5) * m.share ≤ 56320000
    planes_share = mul-le-mul planes_fifth r.share_high

    pub row_divisor : d.planes2 * (d.kmod / 5) * m.share * d.capacity ≤ 675840000000000000
    row_divisor = mul-le-mul planes_share w.check.capacity_high

    pub row_some : 0 < d.planes2 * (d.kmod / 5) * m.share * d.capacity
    row_some =
        mul-pos
        (mul-pos (mul-pos w.check.planes_low (omega (arith, w.check.kmod_low))) (omega (arith, r.share_low)))
        (omega (arith, w.check.capacity_low))
