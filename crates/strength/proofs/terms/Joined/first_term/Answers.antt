-- The numerator has 204 bits, the divisor 151, and the root of their quotient is that of the definition.
use Rattle.std.proofs.Common.{◌≡◌, ℕ, ◌*◌, ◌/◌, ◌^◌, ◌<◌, ◌≤◌, ap, ◌∙◌, ap₂, lt_of_lt_of_le, lt_of_le_of_lt, le_of_lt, mul-le-mul_right, mul_comm, mul-le-mul, mul-le-mul_left, arith, lit<, lit≤}
use Rattle.wide.proofs.Bits.{product_fits}
use Rattle.strength.specs.Working.{first_of, square_root_of}
use Rattle.strength.proofs.Greatest.{square_root_is}
use Rattle.strength.proofs.Room.{divided_is}
use Rattle.strength.proofs.terms.Joined.first_term.Goals as goal

scaled : {k m : ℕ} → k ≤ 231240 → m < 2147483648 → 529 * k * m < 2 ^ 58
scaled h g = lt_of_le_of_lt (mul-le-mul (mul-le-mul_left 529 h) (le_of_lt g)) (lit< tt)

below : (Q f nums whole a b : ℕ) → a ≡ nums * f → b ≡ whole * 10 → f < Q → 0 < whole → 9 * nums ≤ 10 * whole → a < Q * b
below Q f nums whole a b ea eb hf p h = rw (ea, eb) (omega (arith, mul-le-mul_right f h, mul-le-mul_left whole hf))

quotient : (k m nums whole a b : ℕ) → a ≡ nums * (529 * k * m) → b ≡ whole * 10 → square_root_of (a / b) ≡ first_of k m nums whole
unfolding first_of
quotient k m nums whole a b ea eb =
    ap₂ (λ (x y : ℕ). square_root_of (x / y)) (ea ∙ mul_comm nums (529 * k * m)) (eb ∙ mul_comm whole 10)

pub times_u64-a-requires : goal.times_u64-a-requires
times_u64-a-requires c = product_fits 146 58 7 c.requires.bits (scaled c.requires.factor c.requires.moment) tt tt

pub times_u64-b-requires : goal.times_u64-b-requires
times_u64-b-requires c = product_fits 147 4 5 c.requires.whole_bits (lit< tt) tt tt

pub quotient-requires : goal.quotient-requires
quotient-requires c = below 18446744073709551616 _ _ _ _ _ c.times_u64-a.ensures c.times_u64-b.ensures
    (lt_of_lt_of_le (scaled c.requires.factor c.requires.moment) (lit≤ tt))
    c.requires.positive
    c.requires.bound

pub returns : goal.returns
returns c = square_root_is _ _ c.quotient.type_inv c.whole_square_root.ensures
    ∙ ap square_root_of (divided_is c.quotient.ensures)
    ∙ quotient _ _ _ _ _ _ c.times_u64-a.ensures c.times_u64-b.ensures
