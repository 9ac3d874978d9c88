-- The starting bracket from the leading zeros.
use Rattle.std.proofs.Common.{◌≡◌, refl, ℕ, suc, ◌+◌, ◌-◌, ◌*◌, ◌/◌, ◌%◌, ◌^◌, ◌<◌, ◌≤◌, sym, ap, ◌∙◌, arith, pow-add, le_trans, le_of_eq, lt_of_lt_of_le, le_antisymm, zero, mul-le-mul}
use Rattle.std.proofs.Math.Pow.{pow_mono}
use Rattle.std.proofs.lemmas.Nat.{leading_top, one_shl}
use Rattle.std.specs.Int.Count.{count_leading_zeros}
use mathlib.Core.Logic.{◌⊎◌, inl, inr}
use Rattle.std.proofs.lemmas.Bool.{cases_lt}
use Rattle.strength.specs.declared.roots.Bracket.{Bracket}
use Rattle.strength.specs.Halvings.{Power, Starting}

-- low is 2 to this
abbrev pub half_top : ℕ → ℕ
half_top n = (63 - count_leading_zeros 64 n) / 2

-- the highest bit of n > 0 stands at twice this place, or one further
record Top (n : ℕ) : Type 0 where
  pub small : half_top n ≤ 31
  pub not_above : 2 ^ half_top n * 2 ^ half_top n ≤ n
  pub next_above : n < 2 * 2 ^ half_top n * (2 * 2 ^ half_top n)

double_pow : (k : ℕ) → 2 ^ (1 + k + (1 + k)) ≡ 2 * 2 ^ k * (2 * 2 ^ k)
double_pow k = pow-add 2 (1 + k) (1 + k) ∙ ap (λ (z : ℕ). z * z) (pow-add 2 1 k)

top : (n : ℕ) → 0 < n → n < 2 ^ 64 → Top n
top n p h =
    let t = leading_top 64 n p h in
    let e : count_leading_zeros 64 n + suc (t.0) ≡ 64 = t.1 in
    let k : ℕ = half_top n in
    record {
      small = omega (arith, e);
      not_above = le_trans (le_of_eq (sym (pow-add 2 k k))) (le_trans (pow_mono (omega (arith, e))) (t.2));
      next_above = lt_of_lt_of_le (t.3) (le_trans (pow_mono (omega (arith, e))) (le_of_eq (double_pow k)));
    }

shifted : (n : ℕ) → Top n → 1 * 2 ^ half_top n % 18446744073709551616 ≡ 2 ^ half_top n
shifted n t = one_shl (half_top n) 64 (omega (arith, t.small))

pub starting_above_0 : (n : ℕ) → (n ≡ 0 → ⊥) → n < 2 ^ 64 →
    let low = 1 * 2 ^ half_top n % 18446744073709551616 in
    Starting n (record { low = low; high = 2 * low })
starting_above_0 n p h =
    let t : Top n = top n (omega (arith, p)) h in
    rw (shifted n t) (record {
      for_0 = λ z. absurd (p z);
      above_0 = λ _. record { 0 = half_top n; 1 = record { power = refl; double = refl; not_above = t.not_above; next_above = t.next_above } };
    })

-- low is the greatest power of two whose square is not above n
pub greatest_power : (n : ℕ) (b : Bracket) → Starting n b → 0 < n → (j : ℕ) → 2 ^ j * 2 ^ j ≤ n → 2 ^ j ≤ b.low
greatest_power n b s some j h = by (cases_lt k j)
  where
    k : ℕ
    k = (s.above_0 some).0

    p : Power n k b
    p = (s.above_0 some).1

    by : (k < j) ⊎ (j ≤ k) → 2 ^ j ≤ b.low
    by (inl l) =
        let high : b.high ≤ 2 ^ j = le_trans (le_of_eq (p.double ∙ ap (λ (z : ℕ). 2 * z) p.power ∙ sym (pow-add 2 1 k))) (pow_mono (omega (arith, l))) in
        absurd (omega (arith, h, p.next_above, mul-le-mul high high))
    by (inr l) = le_trans (pow_mono l) (le_of_eq (sym p.power))

-- so there is one such bracket
pub one_bracket : (n : ℕ) (b c : Bracket) → Starting n b → Starting n c → (b.low ≡ c.low) × (b.high ≡ c.high)
one_bracket zero b c s t = let e = s.for_0 refl in let f = t.for_0 refl in (e.0 ∙ sym (f.0), e.1 ∙ sym (f.1))
one_bracket (suc n) b c s t =
    let p : Power (suc n) ((s.above_0 (omega arith)).0) b = (s.above_0 (omega arith)).1 in
    let q : Power (suc n) ((t.above_0 (omega arith)).0) c = (t.above_0 (omega arith)).1 in
    let same : b.low ≡ c.low = le_antisymm
    (le_trans (le_of_eq p.power) (greatest_power (suc n) c t (omega arith) _ (rw (← p.power) p.not_above)))
    (le_trans (le_of_eq q.power) (greatest_power (suc n) b s (omega arith) _ (rw (← q.power) q.not_above))) in
    (same, p.double ∙ ap (λ (z : ℕ). 2 * z) same ∙ sym q.double)
