-- Nobody needs to believe this: the brackets are the claim. It says which figure within its bracket each routine returns, in
-- the shape of the algorithm, so that equal values give equal figures.
use Rattle.std.specs.Prelude.{ℕ, zero, suc, ◌+◌, ◌-◌, ◌*◌, ◌/◌, ◌^◌, min, Bool, cond, ◌==◌, nat_le}
use Rattle.strength.specs.declared.plane.Timber.{Timber}
use Rattle.strength.specs.declared.plane.Plane.{Plane}

-- r with its k lowest bits set as far as the test still passes
unfoldable pub greatest : ℕ → (ℕ → Bool) → ℕ → ℕ
greatest zero test r = r
greatest (suc k) test r = greatest k test (cond (test (r + 2 ^ k)) (r + 2 ^ k) r)

-- the whole square root of a number below 2^64
unfoldable pub square_root_of : ℕ → ℕ
square_root_of n = greatest 32 (λ r. nat_le (r * r) n) 0

-- the greatest r below 2^64 with r^5 q ≤ n
unfoldable pub fifth_root_of : ℕ → ℕ → ℕ
fifth_root_of n q = greatest 64 (λ r. nat_le (r ^ 5 * q) n) 0

-- f = 82 (100 - d)/100 bearingNum/bearingDen
abbrev pub bearing_num : Timber → ℕ
bearing_num m = m.density * m.total

abbrev pub bearing_den : Timber → ℕ
bearing_den m = m.k90 * (m.total - m.along) + 1000 * m.along

-- s² = crossed member2 member1 / cross_sum, c² = crossed member1 member2 / cross_sum
abbrev pub crossed : Timber → Timber → ℕ
crossed a b = bearing_num a * bearing_den b

abbrev pub cross_sum : Plane → ℕ
cross_sum p = crossed p.member1 p.member2 + crossed p.member2 p.member1

-- 100 times 0.082 (1 - 0.01 d) d, times 1000 for k90 in thousandths
abbrev pub dowel_factor : ℕ → ℕ
dowel_factor d = 82 * (100 - d) * d

-- the yield moment M = 0.3 fu d^2.6 in thousandths of a Nmm, to the fifth: (300 fu)^5 d^13
abbrev pub yield_to_the_fifth : ℕ → ℕ → ℕ
yield_to_the_fifth d fu = (300 * fu) ^ 5 * d ^ 13

unfoldable pub yield_moment_of : ℕ → ℕ → ℕ
yield_moment_of d fu = fifth_root_of (yield_to_the_fifth d fu) 1

-- the first term, with k the dowel's factor, m the yield moment, nn the product of the bearings' numerators, S the sum
unfoldable pub first_of : ℕ → ℕ → ℕ → ℕ → ℕ
first_of k m nn S = square_root_of (529 * k * m * nn / (10 * S))

-- the whole root of 2^60 v/S
unfoldable pub share_root_of : ℕ → ℕ → ℕ
share_root_of v S = square_root_of (1152921504606846976 * v / S)

-- 1000 f d t = force_of / bearing_den
abbrev pub force_of : ℕ → Timber → ℕ
force_of d m = dowel_factor d * m.thickness * bearing_num m

-- the second term, and the third for one shear plane, with P/D the force f d t and r the whole root of 2^60 s²
unfoldable pub wedge_of : ℕ → ℕ → ℕ → ℕ
wedge_of P D r = P * r / (D * (1073741824 + r))

-- the third term for two shear planes
unfoldable pub half_of : ℕ → ℕ → ℕ
half_of P D = P / (2 * D)

unfoldable pub second_of : Plane → ℕ
second_of p =
    wedge_of (force_of p.diameter p.member1) (bearing_den p.member1)
    (share_root_of (crossed p.member2 p.member1) (cross_sum p))

unfoldable pub third_of : Plane → ℕ
third_of p =
    cond (p.planes == 1)
    (wedge_of (force_of p.diameter p.member2) (bearing_den p.member2)
    (share_root_of (crossed p.member1 p.member2) (cross_sum p)))
    (half_of (force_of p.diameter p.member2) (bearing_den p.member2))

-- the capacity of a shear plane in thousandths of a newton
unfoldable pub capacity_of : Plane → ℕ
capacity_of p =
    min
    (min
    (first_of (dowel_factor p.diameter) (yield_moment_of p.diameter p.steel)
    (bearing_num p.member1 * bearing_num p.member2)
    (cross_sum p))
    (second_of p))
    (third_of p)
