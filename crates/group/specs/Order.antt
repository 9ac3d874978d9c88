-- The dowels of a joint listed in another order (02, A8). Dowels are counted from 0.
use Rattle.std.specs.Prelude.{ℕ, ◌<◌, ◌≡◌}

-- two maps of the numbers below n that undo each other
pub record Relisting (n : ℕ) (there back : ℕ → ℕ) : Type 0 where
  pub there_within : (i : ℕ) → i < n → there i < n
  pub back_within : (i : ℕ) → i < n → back i < n
  pub back_there : (i : ℕ) → i < n → back (there i) ≡ i
  pub there_back : (i : ℕ) → i < n → there (back i) ≡ i
