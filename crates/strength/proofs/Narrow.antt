-- What the halvings of a root's bracket keep.
use Rattle.std.proofs.Common.{◌≡◌, refl, sym, ℕ, zero, suc, ◌+◌, ◌-◌, ◌*◌, ◌/◌, ◌^◌, ◌<◌, ◌≤◌, ap, ◌∙◌, subst, arith, mul-pos, mul-le-mul, lt_of_le_of_lt, lt_of_lt_of_le, lt_irrefl, le_antisymm, le_of_eq, pow-add}
use Rattle.std.proofs.Math.Nat.{pow-suc, lt_of_not-le}
use Rattle.std.proofs.Math.Pow.{pow_mono}
use mathlib.Core.Logic.{◌⊎◌, inl, inr}
use Rattle.std.proofs.lemmas.Bool.{cases_lt}
use Rattle.std.proofs.lemmas.Nat.{pow_pos, pow_below}
use Rattle.wide.proofs.Powers.{square_lt}
use Rattle.strength.specs.declared.roots.Bracket.{Bracket}
use Rattle.strength.specs.Roots.{SquareRoot}
use Rattle.strength.specs.Halvings.{Power, Starting, Halved, Halvings, Counted}
use Rattle.strength.specs.Halvings.Halvings.{none, more}

abbrev pub bracket : ℕ → ℕ → Bracket
bracket low high = record { low = low; high = high }

-- ---- the root lies in each bracket
record Holds (n : ℕ) (b : Bracket) : Type 0 where
  pub low : b.low * b.low ≤ n
  pub high : n < b.high * b.high

-- ---- one halving of the bracket from low to high, h being half its width
halved_up : (n low high h : ℕ) → high ≡ low + 2 * h → (low + h) * (low + h) ≤ n → Halved n (bracket low high) (bracket (low + h) high)
halved_up n low high h e m =
    record { middle = low + h; halfway = omega (arith, e); upper = λ _. (refl, refl); lower = λ l. absurd (omega (arith, l, m)) }

halved_down : (n low high h : ℕ) → high ≡ low + 2 * h → n < (low + h) * (low + h) → Halved n (bracket low high) (bracket low (low + h))
halved_down n low high h e m =
    record { middle = low + h; halfway = omega (arith, e); upper = λ l. absurd (omega (arith, l, m)); lower = λ _. (refl, refl) }

twice : (i : ℕ) → 2 ^ suc i ≡ 2 * 2 ^ i
twice i = rw (pow-suc 2 i) (omega arith)

halves : (i : ℕ) → 2 ^ suc i / 2 ≡ 2 ^ i
halves i = rw (twice i) (omega arith)

four_squares : (g : ℕ) → 2 * g * (2 * g) / 4 ≡ g * g
four_squares g = omega arith

quarter : (i : ℕ) → 2 ^ i * 2 ^ i / 4 ≡ 2 ^ i / 2 * (2 ^ i / 2)
quarter zero = refl
quarter (suc i) = rw (halves i, twice i) (four_squares (2 ^ i))

-- The search in the bracket from low on that is 2 to the j wide, after so many halvings. What it keeps: what n has above the square of low, what the middle's square has above it, the square of half the width.
pub record At (n low j above needed square count : ℕ) : Type 0 where
  pub start : Bracket
  pub starts : Starting n start
  pub halvings : Halvings n count start (bracket low (low + 2 ^ j))
  pub few : count + j ≤ 31
  pub room : low + 2 ^ j ≤ 4294967296
  pub above_is : above + low * low ≡ n
  pub needed_is : needed ≡ low * 2 ^ j + square
  pub square_is : square ≡ 2 ^ j / 2 * (2 ^ j / 2)

abbrev pub Search : ℕ → ℕ → ℕ → ℕ → ℕ → Type 0
Search n above needed square count = (low : ℕ) × (j : ℕ) × At n low j above needed square count

-- what is needed fits
below_64 : (low w : ℕ) → 0 < w → low + w ≤ 4294967296 → low * w + w / 2 * (w / 2) < 2 ^ 64
below_64 low w some room =
    let q : ℕ = w / 2 in
    let a : (low + w) * (low + w) ≤ 4294967296 * 4294967296 = mul-le-mul room room in
    let b : 2 * q * (2 * q) ≤ w * w = mul-le-mul (omega arith) (omega arith) in
    omega (arith, a, b, mul-pos some some)

pub fits : (n above needed square count : ℕ) → Search n above needed square count → needed < 2 ^ 64
fits n above needed square count s =
    let at = s.2 in
    rw (at.needed_is, at.square_is) (below_64 (s.0) (2 ^ (s.1)) (pow_pos (s.1)) at.room)

-- what is needed in the lower half; h is half the width
lower_of : (low i needed : ℕ) → needed ≡ low * (2 * 2 ^ i) + 2 ^ i * 2 ^ i → needed / 2 - 2 ^ i * 2 ^ i / 4 ≡ low * 2 ^ i + 2 ^ i * 2 ^ i / 4
lower_of low zero needed e = rw e (omega arith)
lower_of low (suc i) needed e = rw (e, twice i, four_squares (2 ^ i)) (omega arith)

record Half (low i needed square : ℕ) : Type 0 where
  needed_is : needed ≡ low * (2 * 2 ^ i) + square
  square_is : square ≡ 2 ^ i * 2 ^ i
  middle_is : low * low + needed ≡ (low + 2 ^ i) * (low + 2 ^ i)
  lower_is : needed / 2 - square / 4 ≡ low * 2 ^ i + square / 4

half_at : (low i needed square : ℕ) → needed ≡ low * (2 * 2 ^ i) + square → square ≡ 2 ^ i * 2 ^ i → Half low i needed square
half_at low i needed square n s = record {
  needed_is = n;
  square_is = s;
  middle_is = omega (arith, n, s);
  lower_is = rw s (lower_of low i needed (n ∙ ap (λ (z : ℕ). low * (2 * 2 ^ i) + z) s));
}

half : (n low i above needed square count : ℕ) → At n low (suc i) above needed square count → Half low i needed square
half n low i above needed square count s =
    half_at low i needed square
    (s.needed_is ∙ ap (λ (z : ℕ). low * z + square) (twice i))
    (s.square_is ∙ ap (λ (z : ℕ). z * z) (halves i))

-- the search goes on in the half from low' on
go_on : (n low i low' above above' needed square count : ℕ)
    → At n low (suc i) above needed square count
    → Halved n (bracket low (low + 2 ^ suc i)) (bracket low' (low' + 2 ^ i))
    → low' + 2 ^ i ≤ low + 2 ^ suc i
    → above' + low' * low' ≡ n
    → (needed' : ℕ) → needed' ≡ low' * 2 ^ i + square / 4
    → Search n above' needed' (square / 4) (count + 1)
go_on n low i low' above above' needed square count s halved inside rest needed' e =
    record {
      0 = low';
      1 = i;
      2 = record {
        start = s.start;
        starts = s.starts;
        halvings = more count s.start (bracket low (low + 2 ^ suc i)) (bracket low' (low' + 2 ^ i)) s.halvings halved;
        few = omega (arith, s.few);
        room = omega (arith, s.room, inside);
        above_is = rest;
        needed_is = e;
        square_is = ap (λ (z : ℕ). z / 4) ((half n low i above needed square count s).square_is) ∙ quarter i;
      };
    }

pub step_up : (n low j above needed square count : ℕ) → At n low j above needed square count → 0 < square → needed ≤ above →
    Search n (above - needed) (needed / 2 - square / 4 + square) (square / 4) (count + 1)
step_up n low zero above needed square count s p m = absurd (omega (arith, s.square_is, p))
step_up n low (suc i) above needed square count s p m =
    let h : ℕ = 2 ^ i in
    let k : Half low i needed square = half n low i above needed square count s in
    go_on n low i (low + h) above (above - needed) needed square count s
    (subst (λ (z : ℕ). Halved n (bracket low (low + 2 ^ suc i)) (bracket (low + h) z)) (omega (arith, twice i))
    (halved_up n low (low + 2 ^ suc i) h (omega (arith, twice i)) (omega (arith, k.middle_is, m, s.above_is))))
    (omega (arith, twice i))
    (omega (arith, k.middle_is, m, s.above_is))
    (needed / 2 - square / 4 + square)
    (rw k.lower_is (omega (arith, k.square_is)))

pub step_down : (n low j above needed square count : ℕ) → At n low j above needed square count → 0 < square → above < needed →
    Search n above (needed / 2 - square / 4) (square / 4) (count + 1)
step_down n low zero above needed square count s p m = absurd (omega (arith, s.square_is, p))
step_down n low (suc i) above needed square count s p m =
    let h : ℕ = 2 ^ i in
    let k : Half low i needed square = half n low i above needed square count s in
    go_on n low i low above above needed square count s
    (halved_down n low (low + 2 ^ suc i) h (omega (arith, twice i)) (omega (arith, k.middle_is, m, s.above_is)))
    (omega (arith, twice i))
    s.above_is
    (needed / 2 - square / 4)
    k.lower_is

-- ---- where the search starts
begin_at : (n k : ℕ) (b : Bracket) → Starting n b → b.high ≡ b.low + 2 ^ k → k ≤ 31 → b.high ≤ 4294967296 → b.low * b.low ≤ n →
    let w = b.high - b.low in
    Search n (n - b.low * b.low) (b.low * w + w / 2 * (w / 2)) (w / 2 * (w / 2)) 0
begin_at n k b starts e few room below =
    let w : b.high - b.low ≡ 2 ^ k = omega (arith, e) in
    record {
      0 = b.low;
      1 = k;
      2 = record {
        start = b;
        starts = starts;
        halvings = subst (λ (z : ℕ). Halvings n 0 b (bracket b.low z)) e (none b);
        few = omega (arith, few);
        room = omega (arith, e, room);
        above_is = omega (arith, below);
        needed_is = ap (λ (z : ℕ). b.low * z + (b.high - b.low) / 2 * ((b.high - b.low) / 2)) w;
        square_is = ap (λ (z : ℕ). z / 2 * (z / 2)) w;
      };
    }

few_enough : (k : ℕ) → 2 ^ k * 2 ^ k < 2 ^ 64 → k ≤ 31
few_enough k h = omega (arith, lt_of_not-le (λ (l : 32 ≤ k). lt_irrefl (2 ^ k) (lt_of_lt_of_le (square_lt (2 ^ k) (2 ^ 32) h) (pow_mono l))))

pub begin : (n : ℕ) → n < 2 ^ 64 → (b : Bracket) → Starting n b →
    let w = b.high - b.low in
    Search n (n - b.low * b.low) (b.low * w + w / 2 * (w / 2)) (w / 2 * (w / 2)) 0
begin zero h b s =
    let e = s.for_0 refl in
    begin_at zero zero b s (omega (arith, e.0, e.1)) (omega arith) (omega (arith, e.1)) (rw (e.0) (omega arith))
begin (suc n) h b s =
    let e = s.above_0 (omega arith) in
    let k : ℕ = e.0 in
    let p : Power (suc n) k b = e.1 in
    let few : k ≤ 31 = few_enough k (rw (← p.power) (lt_of_le_of_lt p.not_above h)) in
    begin_at (suc n) k b s (omega (arith, p.double, p.power)) few (omega (arith, p.double, p.power, pow_mono few)) p.not_above

-- ---- and where it ends: the bracket is 1 wide
ended : (n low j above needed square count : ℕ) → At n low j above needed square count → square ≤ 0 → j ≡ 0
ended n low zero above needed square count s e = refl
ended n low (suc i) above needed square count s e =
    let k : square ≡ 2 ^ i * 2 ^ i = (half n low i above needed square count s).square_is in
    absurd (omega (arith, e, k, mul-pos (pow_pos i) (pow_pos i)))

-- ---- the root lies in each bracket, so in the last
start_holds : (n : ℕ) (b : Bracket) → Starting n b → Holds n b
start_holds zero b s = let e = s.for_0 refl in record { low = rw (e.0) (omega arith); high = rw (e.1) (omega arith) }
start_holds (suc n) b s = let p : Power (suc n) ((s.above_0 (omega arith)).0) b = (s.above_0 (omega arith)).1 in record { low = p.not_above; high = p.next_above }

half_holds : (n : ℕ) (b half : Bracket) → Halved n b half → Holds n b → Holds n half
half_holds n b half m h = by (cases_lt n (m.middle * m.middle))
  where
    by : (n < m.middle * m.middle) ⊎ (m.middle * m.middle ≤ n) → Holds n half
    by (inl l) = let e = m.lower l in record { low = rw (e.0) (h.low); high = rw (e.1) l }
    by (inr l) = let e = m.upper l in record { low = rw (e.0) l; high = rw (e.1) (h.high) }

all_hold : {n count : ℕ} {b half : Bracket} → Halvings n count b half → Holds n b → Holds n half
all_hold (none b) h = h
all_hold (more count b c half before last) h = half_holds _ c half last (all_hold before h)

pub whole : (n root count : ℕ) → Counted n root count → SquareRoot n root
whole n root count c =
    let h : Holds n (bracket root (root + 1)) = all_hold c.halvings (start_holds n c.start c.starts) in
    record { low = h.low; high = h.high }

-- ---- each halving halves the width, so they are just k, where low is 2 to the k
width_before : (n w : ℕ) (b half : Bracket) → Halved n b half → half.high ≡ half.low + w → b.high ≡ b.low + 2 * w
width_before n w b half m e = by (cases_lt n (m.middle * m.middle))
  where
    by : (n < m.middle * m.middle) ⊎ (m.middle * m.middle ≤ n) → b.high ≡ b.low + 2 * w
    by (inl l) = let d = m.lower l in omega (arith, m.halfway, e, d.0, d.1)
    by (inr l) = let d = m.upper l in omega (arith, m.halfway, e, d.0, d.1)

width_at_start : {n count : ℕ} {b half : Bracket} → Halvings n count b half → (w : ℕ) → half.high ≡ half.low + w → b.high ≡ b.low + 2 ^ count * w
width_at_start (none b) w e = omega (arith, e)
width_at_start {n} (more count b c half before last) w e =
    width_at_start before (2 * w) (width_before n w c half last e) ∙ ap (λ (z : ℕ). b.low + z) (rw (pow-add 2 count 1) (omega arith))

one_exponent : (j k : ℕ) → 2 ^ j ≡ 2 ^ k → j ≡ k
one_exponent j k e = le_antisymm (at_most j k e) (at_most k j (sym e))
  where
    at_most : (j k : ℕ) → 2 ^ j ≡ 2 ^ k → j ≤ k
    at_most j k e = omega (arith, lt_of_not-le (λ (l : k + 1 ≤ j). omega (arith, pow_below k j (omega (arith, l)), e)))

just_k : (n count root : ℕ) (b : Bracket) → Starting n b → Halvings n count b (bracket root (root + 1)) → (k : ℕ) → b.low ≡ 2 ^ k → count ≡ k
just_k zero count root b s h k l = let e = s.for_0 refl in absurd (omega (arith, e.0, l, pow_pos k))
just_k (suc n) count root b s h k l =
    let p : Power (suc n) ((s.above_0 (omega arith)).0) b = (s.above_0 (omega arith)).1 in
    one_exponent count k (omega (arith, p.double, width_at_start h 1 refl, l))

none_at_0 : (n count root : ℕ) (b : Bracket) → Starting n b → Halvings n count b (bracket root (root + 1)) → n ≡ 0 → count ≡ 0
none_at_0 n count root b s h z =
    let e = s.for_0 z in
    one_exponent count 0 (omega (arith, e.0, e.1, width_at_start h 1 refl))

at_end : (n low above needed square count : ℕ) → At n low 0 above needed square count → Counted n needed count
at_end n low above needed square count s =
    let h : Halvings n count s.start (bracket needed (needed + 1)) =
    subst (λ (z : ℕ). Halvings n count s.start (bracket z (z + 1))) (omega (arith, s.needed_is, s.square_is)) s.halvings in
    record {
      start = s.start;
      starts = s.starts;
      halvings = h;
      at_most = λ k l. le_of_eq (just_k n count needed s.start s.starts h k l);
      none_for_0 = none_at_0 n count needed s.start s.starts h;
    }

pub counted : (n above needed square count : ℕ) → Search n above needed square count → square ≤ 0 → Counted n needed count
counted n above needed square count s e =
    let j = ended n (s.0) (s.1) above needed square count (s.2) e in
    at_end n (s.0) above needed square count (subst (λ (z : ℕ). At n (s.0) z above needed square count) j (s.2))

-- the halvings counted are just k
pub counts_k : (n root count k : ℕ) → (c : Counted n root count) → c.start.low ≡ 2 ^ k → count ≡ k
counts_k n root count k c l = just_k n count root c.start c.starts c.halvings k l
