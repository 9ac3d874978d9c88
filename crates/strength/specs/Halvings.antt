-- The starting bracket of a whole square root, and its halvings (02, A5).
use Rattle.std.specs.Prelude.{ℕ, zero, ◌≡◌, ◌+◌, ◌*◌, ◌^◌, ◌<◌, ◌≤◌}
use Rattle.strength.specs.declared.roots.Bracket.{Bracket}

-- low is 2 to the k, the greatest power of two whose square is not above n: the next one's is; high is its double
pub record Power (n k : ℕ) (b : Bracket) : Type 0 where
  pub power : b.low ≡ 2 ^ k
  pub double : b.high ≡ 2 * b.low
  pub not_above : b.low * b.low ≤ n
  pub next_above : n < b.high * b.high

-- the starting bracket of the root of n; for 0 it is 0 and 1
pub record Starting (n : ℕ) (b : Bracket) : Type 0 where
  pub for_0 : n ≡ 0 → (b.low ≡ 0) × (b.high ≡ 1)
  pub above_0 : 0 < n → (k : ℕ) × Power n k b

-- one halving: the upper half of b where the square of its middle is at most n, else the lower half
pub record Halved (n : ℕ) (b half : Bracket) : Type 0 where
  pub middle : ℕ
  pub halfway : b.low + b.high ≡ 2 * middle
  pub upper : middle * middle ≤ n → (half.low ≡ middle) × (half.high ≡ b.high)
  pub lower : n < middle * middle → (half.low ≡ b.low) × (half.high ≡ middle)

-- so many halvings, one after the other
pub data Halvings (n : ℕ) : ℕ → Bracket → Bracket → Type 0 where
  none : (b : Bracket) → Halvings n zero b b
  more : (count : ℕ) (b c half : Bracket) → Halvings n count b c → Halved n c half → Halvings n (count + 1) b half

-- from the starting bracket to (root, root + 1) in so many halvings: at most k, where low is 2 to the k, and none for 0
pub record Counted (n root count : ℕ) : Type 0 where
  pub start : Bracket
  pub starts : Starting n start
  pub halvings : Halvings n count start (record { low = root; high = root + 1 })
  pub at_most : (k : ℕ) → start.low ≡ 2 ^ k → count ≤ k
  pub none_for_0 : n ≡ 0 → count ≡ 0
