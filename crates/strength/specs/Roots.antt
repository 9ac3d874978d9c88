-- Whole roots: the greatest whole number whose power is at most a given number.
use Rattle.std.specs.Prelude.{ℕ, ◌+◌, ◌*◌, ◌^◌, ◌<◌, ◌≤◌}

-- r is the whole square root of n
pub record SquareRoot (n r : ℕ) : Type 0 where
  pub low : r * r ≤ n
  pub high : n < (r + 1) * (r + 1)

-- r is the whole fifth root of n/q: the greatest whole number whose fifth power times q is at most n
pub record FifthRoot (n q r : ℕ) : Type 0 where
  pub low : r ^ 5 * q ≤ n
  pub high : n < (r + 1) ^ 5 * q

-- the factor q of a ratio n/q
pub record FactorWithin (q : ℕ) : Type 0 where
  pub high : q < 79228162514264337593543950336

-- the fifth root of n/q is at least lo and below hi
pub record FifthBracket (n q lo hi : ℕ) : Type 0 where
  pub apart : lo < hi
  pub low : lo ^ 5 * q ≤ n
  pub high : n < hi ^ 5 * q
  pub factor : FactorWithin q

-- a number strictly between lo and hi
pub record Inside (lo hi r : ℕ) : Type 0 where
  pub above : lo < r
  pub below : r < hi
