-- Which share is returned: the exact floor. Nobody needs to believe this: the bracket in Rows is the claim.
use Rattle.std.specs.Prelude.{ℕ, zero, suc, ◌+◌, ◌-◌, ◌*◌, ◌^◌, ◌≤◌, ◌<◌, min, ◌≡◌, Bool, true, cond, not, ◌&&◌, List, leb, ltb, eqb, ℤ, pos, nat_abs, ◌-ℤ◌, Option, None, Some, MatchOption}
use Rattle.std.specs.Int.Signed.{le_z}
use Rattle.spacing.specs.declared.view.Piece.{Piece}
use Rattle.spacing.specs.Spacing.{along, across, place, distance}
use Rattle.group.specs.declared.rows.Row.{Row}
use Rattle.group.specs.declared.member.Taken.{Taken}
use Rattle.group.specs.declared.member.Both.{Both}
use Rattle.group.specs.Rows.{reach_of, count_to, OfRow, MemberBracket}

-- ---- the windows
-- the window from a place across upwards: the dowels not below it and within reach of it
abbrev pub within_reach : ℤ → ℤ → ℕ → Bool
within_reach from to reach = le_z from to && ltb (nat_abs (to -ℤ from)) reach

abbrev pub in_window : List ℤ → ℕ → ℤ → ℕ → Bool
in_window b reach from j = within_reach from (place b j) reach

-- the least f j of those j below k that pass a test, and at most `cap`
unfoldable pub least_to : ℕ → (ℕ → Bool) → (ℕ → ℕ) → ℕ → ℕ
least_to cap test f zero = cap
least_to cap test f (suc k) = cond (test k) (min (least_to cap test f k) (f k)) (least_to cap test f k)

-- the least distance of two different ones of those below k that pass a test, and at most `cap`
unfoldable pub closest_to : ℕ → (ℕ → Bool) → List ℤ → ℕ → ℕ
closest_to cap test a zero = cap
closest_to cap test a (suc k) =
    cond (test k) (min (closest_to cap test a k) (least_to cap test (distance a k) k)) (closest_to cap test a k)

-- at this distance a row passes every share, so no greater one is told apart from it
abbrev pub farthest : ℕ
farthest = 200000

abbrev pub window_number : List ℤ → ℕ → ℕ → ℤ → ℕ
window_number b count reach from = count_to (in_window b reach from) count

abbrev pub window_closest : List ℤ → List ℤ → ℕ → ℕ → ℤ → ℕ
window_closest a b count reach from = closest_to farthest (in_window b reach from) a count

-- ---- the share
-- 10,000 to the power of 20
unfoldable pub units : ℕ
units = 10000 ^ 20

-- e/10,000 of n dowels is not above their effective number: e^20 (130 d)^5 n² ≤ 10,000^20 a1^5
unfoldable pub row_passes : ℕ → ℕ → ℕ → ℕ → Bool
row_passes d n a1 e = leb ((e ^ 4) ^ 5 * ((130 * d) ^ 5 * (n * n))) (units * a1 ^ 5)

-- every index below k passes a test
unfoldable pub all_to : (ℕ → Bool) → ℕ → Bool
all_to test zero = true
all_to test (suc k) = test k && all_to test k

-- the greatest number up to e that passes a test, else 0
unfoldable pub greatest_to : (ℕ → Bool) → ℕ → ℕ
greatest_to test zero = zero
greatest_to test (suc e) = cond (test (suc e)) (suc e) (greatest_to test e)

-- the windows from the first k dowels upwards pass e
abbrev pub windows_pass : ℕ → ℕ → List ℤ → List ℤ → ℕ → ℕ → ℕ → Bool
windows_pass d reach a b count k e =
    all_to (λ i. row_passes d (window_number b count reach (place b i)) (window_closest a b count reach (place b i)) e) k

-- a member's share in ten-thousandths
unfoldable pub member_share : ℕ → ℕ → List ℤ → List ℤ → ℕ → ℕ
member_share d reach a b count = greatest_to (windows_pass d reach a b count count) 10000

-- what is promised of it: the bracket, and which share it is
pub record MemberShared (d reach : ℕ) (a b : List ℤ) (count e : ℕ) : Type 0 where
  pub bracket : MemberBracket (OfRow a b count reach) d e
  pub is : e ≡ member_share d reach a b count

-- ---- what the use takes of a member of a record: the force along its grain, and the share of its rows
pub record TakenFrom (m : Piece) (d : ℕ) (fx fy : ℤ) (x y : List ℤ) (count : ℕ) (t : Taken) : Type 0 where
  pub force : t.along ≡ nat_abs (along m.grain fx fy)
  pub share : MemberShared d (reach_of d) (along m.grain x y) (across m.grain x y) count t.share

pub record BothTaken (m₁ m₂ : Piece) (d : ℕ) (fx fy : ℤ) (x y : List ℤ) (count : ℕ) (b : Both) : Type 0 where
  pub member1 : TakenFrom m₁ d fx fy x y count b.member1
  pub member2 : TakenFrom m₂ d fx fy x y count b.member2
  pub share : b.share ≡ min b.member1.share b.member2.share

-- ---- what the parts answer
-- a pass over the dowels in the order of a list: how many of them passed a test, the least distance along from one to the next, where the
-- last of them lies
pub record Seen : Type 0 where
  pub number : ℕ
  pub least : ℕ
  pub last : ℤ

abbrev pub gap_on : Seen → ℤ → ℕ
gap_on s at = cond (eqb s.number 0) s.least (min s.least (nat_abs (at -ℤ s.last)))

abbrev pub seen_on : Seen → Bool → ℤ → Seen
seen_on s inside at =
    cond inside (record { number = s.number + 1; least = gap_on s at; last = at }) s

unfoldable pub seen_to : (ℕ → Bool) → List ℤ → ℕ → Seen
seen_to test a zero = record { number = 0; least = farthest; last = pos 0 }
seen_to test a (suc k) = seen_on (seen_to test a k) (test k) (place a k)

-- what the code keeps of such a pass: a row, and where the last dowel of it lies, if it has one
abbrev pub longer : Row → Option ℤ → ℤ → Row
longer row None at = record { number = row.number + 1; least = row.least }
longer row (Some z) at = record { number = row.number + 1; least = min row.least (nat_abs (at -ℤ z)) }

pub record Kept (row : Row) (at : Option ℤ) (s : Seen) : Type 0 where
  pub number : row.number ≡ s.number
  pub least : row.least ≡ s.least
  pub last : MatchOption at (s.number ≡ 0) (λ z. (1 ≤ s.number) × (z ≡ s.last))

-- what such a pass over a window makes of it
abbrev pub window_seen : List ℤ → List ℤ → ℕ → ℕ → ℤ → Row
window_seen a b count reach from = record {
  number = (seen_to (in_window b reach from) a count).number;
  least = (seen_to (in_window b reach from) a count).least;
}

-- a row, or a part of one, is within the limits of a record
pub record RowHolds (row : Row) : Type 0 where
  pub most : row.number ≤ 64
  pub far : row.least ≤ farthest

-- a window starts where the one before it did
abbrev pub same_start : List ℤ → ℕ → Bool
same_start starts i = not (eqb i 0) && eqb (distance starts (i - 1) i) 0

-- the windows from the first k of `starts`, as a pass sees them, pass e
abbrev pub seen_pass : ℕ → ℕ → List ℤ → List ℤ → ℕ → List ℤ → ℕ → ℕ → Bool
seen_pass d reach a b count starts k e =
    all_to (λ i. row_passes d (window_seen a b count reach (place starts i)).number (window_seen a b count reach (place starts i)).least e) k

-- r passes the shares that these pass
pub record WorstOf (reach : ℕ) (a b : List ℤ) (count : ℕ) (starts : List ℤ) (k : ℕ) (r : Row) : Type 0 where
  pub some : 1 ≤ r.number
  pub within : RowHolds r
  pub passes :
      (d e : ℕ) → d ≤ 30 → e ≤ 10000 →
      row_passes d r.number r.least e ≡ seen_pass d reach a b count starts k e

-- r is the greatest e with e^20 q ≤ n
pub record GreatestShare (q n lo hi r : ℕ) : Type 0 where
  pub from : lo ≤ r
  pub below : r < hi
  pub low : (r ^ 4) ^ 5 * q ≤ n
  pub high : n < ((r + 1) ^ 4) ^ 5 * q

-- r passes the shares that both rows pass
pub record Decides (worst row r : Row) : Type 0 where
  pub some : 1 ≤ r.number
  pub within : RowHolds r
  pub both :
      (d e : ℕ) →
      row_passes d r.number r.least e
      ≡ row_passes d row.number row.least e && row_passes d worst.number worst.least e
