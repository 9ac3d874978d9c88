-- What the inner routines ask and hand on: numbers in limbs, with as many bits as their arrays hold. Nobody needs to believe this.
use Rattle.std.specs.Prelude.{◌≡◌, ℕ, ◌+◌, ◌-◌, ◌*◌, ◌^◌, ◌<◌, ◌≤◌}
use Rattle.wide.specs.Natural.{value}
use Rattle.strength.specs.declared.plane.Timber.{Timber}
use Rattle.strength.specs.declared.terms.Bearing.{Bearing}
use Rattle.strength.specs.declared.terms.Joined.{Joined}
use Rattle.strength.specs.Working.{bearing_num, bearing_den}

-- what a member's bearing is made of, with cos²α = along/total
pub record BearingWithin (density k90 along total : ℕ) : Type 0 where
  pub density_high : density ≤ 1100
  pub k90_high : k90 ≤ 1800
  pub angle : along ≤ total
  pub force_high : total < 2 ^ 62

-- the bearing of a member
pub record BearingOf (density k90 along total : ℕ) (b : Bearing) : Type 0 where
  pub num : value b.num ≡ density * total
  pub den : value b.den ≡ k90 * (total - along) + 1000 * along

-- what is made of two bearings, num1/den1 and num2/den2
pub record JoinedFrom (num1 den1 num2 den2 : ℕ) (j : Joined) : Type 0 where
  pub first_num : value j.bearing1.num ≡ num1
  pub first_den : value j.bearing1.den ≡ den1
  pub second_num : value j.bearing2.num ≡ num2
  pub second_den : value j.bearing2.den ≡ den2
  pub cross1 : value j.cross1 ≡ num1 * den2
  pub cross2 : value j.cross2 ≡ num2 * den1
  pub whole : value j.whole ≡ num1 * den2 + num2 * den1
  pub nums : value j.nums ≡ num1 * num2

-- of both members' bearings
abbrev pub JoinedOf : Timber → Timber → Joined → Type 0
JoinedOf member1 member2 j = JoinedFrom (bearing_num member1) (bearing_den member1) (bearing_num member2) (bearing_den member2) j

-- two numbers of at most k bits
pub record Bits (k a b : ℕ) : Type 0 where
  pub first : a < 2 ^ k
  pub second : b < 2 ^ k

-- a part of a whole
pub record Portion (part whole : ℕ) : Type 0 where
  pub below : part ≤ whole
  pub positive : 0 < whole
  pub bits : whole < 2 ^ 147

-- what the first term is made of: the dowel's factor k, the yield moment m, the product of the numerators, the sum
pub record FirstWithin (k m nums whole : ℕ) : Type 0 where
  pub factor : k ≤ 231240
  pub moment : m < 2147483648
  pub bits : nums < 2 ^ 146
  pub whole_bits : whole < 2 ^ 147
  pub positive : 0 < whole
  pub bound : 9 * nums ≤ 10 * whole

-- a force in units of num/den that comes to at most 2^30 thousandths of a newton
pub record ForceWithin (force num den : ℕ) : Type 0 where
  pub factor : force ≤ 924960000
  pub num_bits : num < 2 ^ 73
  pub den_bits : den < 2 ^ 73
  pub positive : 0 < den
  pub bound : force * num ≤ 1073741824 * den

-- a diameter in mm, and 600 fu d^2
pub record HintWithin (d unit : ℕ) : Type 0 where
  pub diameter_high : d ≤ 30
  pub unit_high : unit ≤ 432000000
