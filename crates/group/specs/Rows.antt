-- Rows, effective number and row share (01, 'Rows, share and use'; 02, A3). Lengths are tenths of a millimetre, d is in mm.
-- a are the coordinates of the dowels along a member's grain, b across it; there are `count` dowels, counted from 0.
use Rattle.std.specs.Prelude.{ℕ, zero, suc, ◌+◌, ◌*◌, ◌^◌, ◌≤◌, ◌<◌, ◌≡◌, Bool, true, false, cond, List, ℤ}
use Rattle.strength.specs.Fraction.{Fraction, ◌over◌, whole, ◌⊗◌, ◌↑◌, ◌≼◌}
use Rattle.spacing.specs.Spacing.{distance}

-- d in tenths, as coordinates are
abbrev pub reach_of : ℕ → ℕ
reach_of d = 10 * d

-- dowel i cannot be added to a set: it differs across by `reach`, d in tenths, or more from a dowel of the set
pub record Barred (b : List ℤ) (count reach : ℕ) (in_row : ℕ → Bool) (i : ℕ) : Type 0 where
  pub by : ℕ
  pub within : by < count
  pub member : in_row by ≡ true
  pub far : reach ≤ distance b i by

-- 'A row is any set of dowels whose across coordinates all differ by less than d and to which no other dowel can be added' (02, A3).
-- A set is a test on the dowels' numbers, of which those below `count` matter.
pub record IsRow (b : List ℤ) (count reach : ℕ) (in_row : ℕ → Bool) : Type 0 where
  pub near : (i j : ℕ) → i < count → j < count → in_row i ≡ true → in_row j ≡ true → distance b i j < reach
  pub full : (i : ℕ) → i < count → in_row i ≡ false → Barred b count reach in_row i

-- 'n is their number': how many of 0, 1, .. below k pass a test
unfoldable pub count_to : (ℕ → Bool) → ℕ → ℕ
count_to test zero = 0
count_to test (suc k) = cond (test k) (count_to test k + 1) (count_to test k)

-- 'a1 the least along distance in it': two different dowels of it lie a1 apart, and no two of it lie closer
pub record LeastDistance (a : List ℤ) (count : ℕ) (in_row : ℕ → Bool) (a1 : ℕ) : Type 0 where
  pub one : ℕ
  pub two : ℕ
  pub one_within : one < count
  pub two_within : two < count
  pub differ : one ≡ two → ⊥
  pub one_row : in_row one ≡ true
  pub two_row : in_row two ≡ true
  pub attained : a1 ≡ distance a one two
  pub least :
      (j k : ℕ) → j < count → k < count → (j ≡ k → ⊥) → in_row j ≡ true → in_row k ≡ true → a1 ≤ distance a j k

-- n and a1 are those of a row. A row of one dowel has no a1: every number stands for it, and no test reads it.
pub record OfRow (a b : List ℤ) (count reach n a1 : ℕ) : Type 0 where
  pub in_row : ℕ → Bool
  pub row : IsRow b count reach in_row
  pub number : n ≡ count_to in_row count
  pub distance : 1 < n → LeastDistance a count in_row a1

-- The effective number is 1 for n = 1, else the lesser of n and n^0.9 (a1/13d)^¼. A fraction e is not above it if e ≤ n and, for
-- n > 1, e^20 (130 d)^5 ≤ n^18 a1^5.
pub record NotAbove (d n a1 : ℕ) (e : Fraction) : Type 0 where
  pub number : e ≼ whole n
  pub several : 1 < n → (e ↑ 20) ⊗ whole ((130 * d) ^ 5) ≼ whole (n ^ 18 * a1 ^ 5)

-- It is not below it if e ≥ n or, for n > 1, e^20 (130 d)^5 ≥ n^18 a1^5.
pub data NotBelow (d n a1 : ℕ) (e : Fraction) : Type 0 where
  all : whole n ≼ e → NotBelow d n a1 e
  several : 1 < n → whole (n ^ 18 * a1 ^ 5) ≼ (e ↑ 20) ⊗ whole ((130 * d) ^ 5) → NotBelow d n a1 e

-- Reported share E: in every row E n/10,000 is not above the effective number, and in some row (E + 2) n/10,000 is above it.
abbrev pub share_over : ℕ → ℕ → Fraction
share_over e n = (e * n) over 10000

-- `row n a1` says that n and a1 are those of a row
abbrev pub EveryRow : (ℕ → ℕ → Type 0) → ℕ → ℕ → Type 0
EveryRow row d e = (n a1 : ℕ) → row n a1 → NotAbove d n a1 (share_over e n)

pub record SomeRowAbove (row : ℕ → ℕ → Type 0) (d e : ℕ) : Type 0 where
  pub n : ℕ
  pub a1 : ℕ
  pub is : row n a1
  pub above : NotAbove d n a1 (share_over e n) → ⊥

-- the bracket over the rows of one member
pub record MemberBracket (row : ℕ → ℕ → Type 0) (d e : ℕ) : Type 0 where
  pub every : EveryRow row d e
  pub some : SomeRowAbove row d (e + 2)

-- What the record's limits guarantee of d, of d in tenths and of the number of dowels.
pub record RowsGiven (d reach count : ℕ) : Type 0 where
  pub thick : d ≤ 30
  pub reaches : 60 ≤ reach
  pub some : 1 ≤ count
  pub most : count ≤ 64
