-- Numerator and denominator have at most 74 bits, which three limbs hold.
use Rattle.std.proofs.Common.{rules, ◌≡◌, ℕ, ◌+◌, ◌-◌, ◌*◌, ◌^◌, ◌<◌, ap, ◌∙◌, ap₂, mul_comm, arith, lit<}
use Rattle.wide.proofs.Bits.{product_bits, product_fits, sum_bits}
use Rattle.strength.specs.Leaves.{BearingWithin}
use Rattle.strength.proofs.Room.{again}
use Rattle.strength.proofs.terms.bearing_of.Goals as goal

scaled : (x y z : ℕ) → x ≡ y * z → (a : ℕ) → y ≡ a → x ≡ z * a
scaled x y z e a f = e ∙ mul_comm y z ∙ ap (λ (u : ℕ). z * u) f

module _ {density k90 along total : ℕ} (w : BearingWithin density k90 along total) where
  density_bits : density < 2 ^ 11
  density_bits = omega (arith, w.density_high)

  k90_bits : k90 < 2 ^ 11
  k90_bits = omega (arith, w.k90_high)

  across_bits : total - along < 2 ^ 62
  across_bits = omega (arith, w.force_high)

  along_bits : along < 2 ^ 62
  along_bits = omega (arith, w.angle, w.force_high)

pub times_u64-num-requires : goal.times_u64-num-requires
times_u64-num-requires c = product_fits 62 11 3 (rw c.from_u64.ensures c.requires.force_high) (density_bits c.requires) tt tt

pub times_u64-den-requires : goal.times_u64-den-requires
times_u64-den-requires c = product_fits 62 11 3 (rw c.from_u64-2.ensures (across_bits c.requires)) (k90_bits c.requires) tt tt

pub multiply_add_u64-requires : goal.multiply_add_u64-requires
multiply_add_u64-requires c = again _ 3 74 (search rules)
    (sum_bits 73
    (rw (c.times_u64-den.ensures, c.from_u64-2.ensures) (product_bits 62 11 (across_bits c.requires) (k90_bits c.requires)))
    (product_bits 62 11 (rw c.from_u64-3.ensures (along_bits c.requires)) (lit< tt)))
    tt

pub returns : goal.returns
returns c = record {
  num = scaled _ _ _ (c.times_u64-num.ensures) _ c.from_u64.ensures;
  den =
      c.multiply_add_u64.ensures
      ∙ ap₂ (λ (x y : ℕ). x + y)
      (scaled _ _ _ (c.times_u64-den.ensures) _ c.from_u64-2.ensures)
      (mul_comm _ 1000 ∙ ap (λ (z : ℕ). 1000 * z) c.from_u64-3.ensures);
}
