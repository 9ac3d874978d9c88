-- The product has 355 bits.
use mathlib.Core.Path.{◌≡◌, ap₂, ◌∙◌}
use Prim.Native.Nat.{ℕ, ◌*◌, ◌^◌}
use native.Mathlib.Omega.{arith}
use Rattle.wide.proofs.Bits.{product_fits}
use Rattle.group.proofs.Sizes.{distance5, fifth, units_are, units_bits}
use Rattle.group.proofs.share.scaled.Goals as goal

one_fifth : (a : ℕ) → 1 * 1 * a ^ 5 ≡ a ^ 5
one_fifth a = omega arith

pub product-requires : goal.product-requires
product-requires c = let a = c.args.a1 in
    let b = rw (fifth a) at (distance5 c.requires) in
    product_fits 266 89 12 (rw units_are units_bits) (rw (c.product-power.ensures ∙ one_fifth a) b) tt tt

pub returns : goal.returns
returns c = c.product.ensures ∙ ap₂ ◌*◌ units_are (c.product-power.ensures ∙ one_fifth c.args.a1)
