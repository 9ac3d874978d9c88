-- n² a² has 49 bits.
use mathlib.Core.Path.{◌≡◌, ap, ◌∙◌}
use Prim.Native.Nat.{◌*◌}
use native.Mathlib.Nat.{lt_of_lt_of_le}
use native.Mathlib.Omega.{arith}
use lib.Dec.{lit≤}
use Rattle.wide.proofs.Bits.{product_bits}
use Rattle.group.proofs.Sizes.{number2, distance2, fifth}
use Rattle.group.proofs.share.product.Goals as goal

pub overflow_mul-number-2 : goal.overflow_mul-number-2
overflow_mul-number-2 c = record {
  fits = lt_of_lt_of_le (product_bits 13 36 (number2 c.requires.0) (distance2 c.requires.1)) (lit≤ tt);
}

pub returns : goal.returns
returns c = let n = c.args.number in
    let a = c.args.length in
    let e : n * n * (a * a) * (a * a * a) ≡ n * n * (a * a * a * (a * a)) = omega arith in
    c.product_u64.ensures ∙ e ∙ ap (λ z. n * n * z) (fifth a)
