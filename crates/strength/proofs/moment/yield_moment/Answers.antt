-- The root lies between 2 and 8 times 0.3 fu d^2, and the whole root is that of the definition.
use Rattle.std.proofs.Common.{◌≡◌, ℕ, ◌+◌, ◌*◌, ◌^◌, ◌<◌, ◌≤◌, refl, lt_of_lt_of_le, lt_irrefl, mul-le-mul, mul-one, arith, lit<, lit≤}
use Rattle.wide.specs.Natural.{value}
use Rattle.strength.specs.Roots.{FifthRoot, FifthBracket}
use Rattle.strength.specs.Shear.{DowelWithin}
use Rattle.strength.specs.Figures.{YieldMoment}
use Rattle.strength.specs.Working.{yield_to_the_fifth, yield_moment_of}
use Rattle.strength.proofs.Greatest.{fifth_root_is}
use Rattle.strength.proofs.Plain.{yield_plain}
use Rattle.strength.proofs.Sizes.{yield_above, yield_below, yield_fits}
use Rattle.strength.proofs.moment.yield_moment.Goals as goal

module _ {d fu : ℕ} (w : DowelWithin d fu) where
  bracket : (n q : ℕ) → n ≡ yield_to_the_fifth d fu → q ≡ 1 → FifthBracket n q (600 * fu * d * d) (4 * (600 * fu * d * d))
  bracket n q en eq =
      rw (en, eq) (record {
        apart = positive w.steel_low w.diameter_low;
        low =
            rw (mul-one ((600 * fu * d * d) ^ 5), twice)
            (yield_above d fu w.diameter_low w.diameter_high w.steel_low w.steel_high);
        high =
            rw (mul-one ((4 * (600 * fu * d * d)) ^ 5), eight)
            (yield_below d fu w.diameter_low w.diameter_high w.steel_low w.steel_high);
        factor = record { high = lit< tt };
      })
    where
      twice : 600 * fu * d * d ≡ 2 * (300 * fu * (d * d))
      twice = omega arith

      eight : 4 * (600 * fu * d * d) ≡ 8 * (300 * fu * (d * d))
      eight = omega arith

      positive : 300 ≤ fu → 6 ≤ d → 600 * fu * d * d < 4 * (600 * fu * d * d)
      positive h g = omega (arith, mul-le-mul h (mul-le-mul g g))

  moment : (n q r : ℕ) → n ≡ yield_to_the_fifth d fu → q ≡ 1 → FifthRoot n q r → YieldMoment d fu r
  unfolding yield_moment_of
  moment n q r en eq root =
      let root' : FifthRoot (yield_to_the_fifth d fu) 1 r = rw (en, eq) at root in
      record {
        low = (yield_plain d fu r).1 (rw (mul-one (r ^ 5)) at root'.low);
        high = λ l. lt_irrefl (yield_to_the_fifth d fu) (lt_of_lt_of_le (rw (mul-one ((r + 1) ^ 5)) at root'.high) ((yield_plain d fu (r + 1)).0 l));
        is =
            fifth_root_is (yield_to_the_fifth d fu) 1 r
            (lt_of_lt_of_le (yield_fits d fu w.diameter_low w.diameter_high w.steel_low w.steel_high) (lit≤ tt))
            root';
      }

pub fifth_root_near-requires : goal.fifth_root_near-requires
unfolding value
fifth_root_near-requires c = bracket c.requires _ _ c.to_the_fifth-n.ensures refl

pub returns : goal.returns
unfolding value
returns c = moment c.requires _ _ _ c.to_the_fifth-n.ensures refl c.fifth_root_near.ensures
