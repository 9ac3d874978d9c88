-- The first index that fails a test, and the first pair of indices, first by i, then by j.
-- Indices are counted from 0; the end of the range says that there is none.
use Rattle.std.specs.Prelude.{ℕ, zero, suc, ◌+◌, ◌-◌, ◌<◌, ◌≤◌, ◌≡◌, Bool, cond, ltb, Option, MatchOption}

-- the first of k, k + 1, .. (left of them) at which the test holds, else k + left
unfoldable pub first_from : (ℕ → Bool) → ℕ → ℕ → ℕ
first_from test k zero = k
first_from test k (suc left) = cond (test k) k (first_from test (k + 1) left)

-- the first j after i, among n, that makes a pair with i, else n
unfoldable pub partner : (ℕ → ℕ → Bool) → ℕ → ℕ → ℕ
partner pair n i = first_from (pair i) (i + 1) (n - (i + 1))

-- the first i, among n, that has a partner, else n
abbrev pub has_partner : (ℕ → ℕ → Bool) → ℕ → ℕ → Bool
has_partner pair n i = ltb (partner pair n i) n

unfoldable pub first_pair : (ℕ → ℕ → Bool) → ℕ → ℕ
first_pair pair n = first_from (has_partner pair n) 0 n

-- an answer is the first such index of those below n, or there is none
abbrev pub FirstIs : Option ℕ → ℕ → ℕ → Type 0
FirstIs r first n = MatchOption r (n ≤ first) (λ i. (i ≡ first) × (i < n))

-- an answer is the first pair, or there is none
abbrev pub PairIs : Option (ℕ × ℕ) → (ℕ → ℕ → Bool) → ℕ → Type 0
PairIs r pair n =
    MatchOption r (n ≤ first_pair pair n)
    (λ p. (p.0 ≡ first_pair pair n) × (p.0 < n) × (p.1 ≡ partner pair n p.0) × (p.1 < n))
