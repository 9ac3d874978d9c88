-- The square, the fourth, the fifth power and the product are made one after the other; each has as many bits as its factors together.
use Rattle.std.proofs.Common.{◌≡◌, ℕ, ◌*◌, ◌^◌, ◌<◌, leb, ap, ◌∙◌}
use Rattle.wide.specs.Natural.{value}
use Rattle.wide.proofs.Bits.{product_bits, product_fits}
use Rattle.wide.proofs.Powers.{fifth_is}
use Rattle.strength.proofs.roots.fifth_power_at_most.Goals as goal

square_bits : {s r : ℕ} → s ≡ r * r → r < 2 ^ 64 → s < 2 ^ 128
square_bits e h = rw e (product_bits 64 64 h h)

fourth_bits : {f s r : ℕ} → f ≡ s * s → s ≡ r * r → r < 2 ^ 64 → f < 2 ^ 256
fourth_bits e d h = rw e (product_bits 128 128 (square_bits d h) (square_bits d h))

fifth_bits : {v f s r : ℕ} → v ≡ f * r → f ≡ s * s → s ≡ r * r → r < 2 ^ 64 → v < 2 ^ 320
fifth_bits g e d h = rw g (product_bits 256 64 (fourth_bits e d h) h)

whole : (p v q f s r : ℕ) → p ≡ v * q → v ≡ f * r → f ≡ s * s → s ≡ r * r → p ≡ r ^ 5 * q
whole p v q f s r i g e d =
    i ∙ ap (λ (z : ℕ). z * q) (g ∙ ap (λ (z : ℕ). z * r) (e ∙ ap (λ (z : ℕ). z * z) d) ∙ fifth_is r)

pub product-fourth-requires : goal.product-fourth-requires
product-fourth-requires c = product_fits 128 128 8 (square_bits c.product_u64-square.ensures c.ranges.r.fits) (square_bits c.product_u64-square.ensures c.ranges.r.fits) tt tt

pub times_u64-fifth-requires : goal.times_u64-fifth-requires
times_u64-fifth-requires c = product_fits 256 64 10 (fourth_bits c.product-fourth.ensures c.product_u64-square.ensures c.ranges.r.fits) c.ranges.r.fits tt tt

pub product-product-requires : goal.product-product-requires
product-product-requires c =
    product_fits 320 96 13
    (fifth_bits c.times_u64-fifth.ensures c.product-fourth.ensures c.product_u64-square.ensures c.ranges.r.fits)
    c.requires.high
    tt
    tt

pub returns : goal.returns
returns c = c.at_most.ensures
    ∙ ap (λ (z : ℕ). leb z (value c.args.n.now))
    (whole _ _ _ _ _ _ c.product-product.ensures c.times_u64-fifth.ensures c.product-fourth.ensures c.product_u64-square.ensures)
