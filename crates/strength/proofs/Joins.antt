-- What the bearings of both members, in limbs, meet of what the terms ask, and that the terms are those of the definition.
use Rattle.std.proofs.Common.{◌≡◌, ℕ, ◌*◌, ◌≤◌, min, cond, eqb, ◌∙◌, ap₂, le-add_right, mul-le-mul, le-add_left}
use Rattle.wide.specs.Natural.{value}
use Rattle.wide.proofs.Bits.{product_bits}
use Rattle.strength.specs.declared.plane.Timber.{Timber}
use Rattle.strength.specs.declared.plane.Plane.{Plane}
use Rattle.strength.specs.declared.terms.Joined.{Joined}
use Rattle.strength.specs.Shear.{MemberWithin, PlaneWithin}
use Rattle.strength.specs.Leaves.{JoinedOf, Portion, FirstWithin, ForceWithin}
use Rattle.strength.specs.Working.{bearing_num, bearing_den, crossed, dowel_factor, yield_moment_of, first_of, share_root_of, wedge_of, half_of, second_of, third_of, capacity_of}
use Rattle.strength.proofs.Sizes.{
  num_bits,
  den_bits,
  den_positive,
  factor_bound,
  force_bound,
  yield_high,
  sum_positive,
  sum_high,
  product_bound,
}
use Rattle.strength.proofs.Capacities.{share_bound}

pub force_fits : (p : Plane) → PlaneWithin p → (m : Timber) → MemberWithin m → dowel_factor p.diameter * m.thickness ≤ 924960000
force_fits p w m wm = mul-le-mul (factor_bound p.diameter w.dowel.diameter_low w.dowel.diameter_high) wm.thickness_high

force_within : (p : Plane) → PlaneWithin p → (m : Timber) → MemberWithin m → (n d : ℕ) → n ≡ bearing_num m → d ≡ bearing_den m
    → ForceWithin (dowel_factor p.diameter * m.thickness) n d
force_within p w m wm n d en ed = rw (en, ed) (record {
  factor = force_fits p w m wm;
  num_bits = num_bits m wm;
  den_bits = den_bits m wm;
  positive = den_positive m wm;
  bound = force_bound p.diameter m w.dowel.diameter_low w.dowel.diameter_high wm;
})

module _ {p : Plane} (w : PlaneWithin p) {j : Joined} (h : JoinedOf p.member1 p.member2 j) where
  pub first_within : {m : ℕ} → m ≡ yield_moment_of p.diameter p.steel
      → FirstWithin (dowel_factor p.diameter) m (value j.nums) (value j.whole)
  first_within e = rw (h.nums, h.whole, e) (record {
    factor = factor_bound p.diameter w.dowel.diameter_low w.dowel.diameter_high;
    moment = yield_high p.diameter p.steel w.dowel.diameter_low w.dowel.diameter_high w.dowel.steel_low w.dowel.steel_high;
    bits = product_bits 73 73 (num_bits p.member1 w.member1) (num_bits p.member2 w.member2);
    whole_bits = sum_high p w;
    positive = sum_positive p w;
    bound = product_bound p w;
  })

  -- s² and c² are parts of a whole
  pub portion_s : Portion (value j.cross2) (value j.whole)
  portion_s = rw (h.cross2, h.whole) (record {
    below = le-add_left (crossed p.member2 p.member1) (crossed p.member1 p.member2);
    positive = sum_positive p w;
    bits = sum_high p w;
  })

  pub portion_c : Portion (value j.cross1) (value j.whole)
  portion_c = rw (h.cross1, h.whole) (record {
    below = le-add_right (crossed p.member1 p.member2) (crossed p.member2 p.member1);
    positive = sum_positive p w;
    bits = sum_high p w;
  })

  pub force_1 : ForceWithin (dowel_factor p.diameter * p.member1.thickness) (value j.bearing1.num) (value j.bearing1.den)
  force_1 = force_within p w p.member1 w.member1 (value j.bearing1.num) (value j.bearing1.den) h.first_num h.first_den

  pub force_2 : ForceWithin (dowel_factor p.diameter * p.member2.thickness) (value j.bearing2.num) (value j.bearing2.den)
  force_2 = force_within p w p.member2 w.member2 (value j.bearing2.num) (value j.bearing2.den) h.second_num h.second_den

  -- the terms are those of the definition
  pub gathered : (m a b c x : ℕ)
      → m ≡ yield_moment_of p.diameter p.steel
      → a ≡ first_of (dowel_factor p.diameter) m (value j.nums) (value j.whole)
      → b ≡ wedge_of (dowel_factor p.diameter * p.member1.thickness * value j.bearing1.num) (value j.bearing1.den)
      (share_root_of (value j.cross2) (value j.whole))
      → c ≡ cond (eqb p.planes 1)
      (wedge_of (dowel_factor p.diameter * p.member2.thickness * value j.bearing2.num) (value j.bearing2.den)
      (share_root_of (value j.cross1) (value j.whole)))
      (half_of (dowel_factor p.diameter * p.member2.thickness * value j.bearing2.num) (value j.bearing2.den))
      → x ≡ min (min a b) c
      → x ≡ capacity_of p
  unfolding capacity_of second_of third_of
  gathered m a b c x em ea eb ec ex =
      ex
      ∙ ap₂ min
      (ap₂ min (ea ∙ rw (em, h.nums, h.whole)) (eb ∙ rw (h.first_num, h.first_den, h.cross2, h.whole)))
      (ec ∙ rw (h.second_num, h.second_den, h.cross1, h.whole))

-- the root of a part of a whole is at most 2^30
pub root_fits : {part whole r : ℕ} → Portion part whole → r ≡ share_root_of part whole → r ≤ 1073741824
root_fits {part} {whole} h e = rw e (share_bound part whole h.below h.positive)
