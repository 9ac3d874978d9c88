-- The reported use is enough, and within a two-hundredth part plus 2 of what is enough.
use Prim.Native.Nat.{ℕ, ◌+◌, ◌*◌, ◌-◌, ◌/◌, ◌≤◌, ◌<◌, max}
use mathlib.Core.Path.{◌≡◌, ap}
use mathlib.Core.Logic.{⊎_elim, ◌⊎◌, inl, inr}
use native.Mathlib.Omega.{arith}
use native.Mathlib.Decide.{dec_le}
use native.Mathlib.Nat.{div-add-mod', mod-lt, mul-le-mul_right, lt_of_not-le, lt_of_mul-lt-mul_right, le_antisymm}
use Rattle.strength.specs.Fraction.{Fraction, ◌over◌, whole, ◌↑◌, ◌≼◌, Proper}
use Rattle.strength.specs.Working.{square_root_of}
use Rattle.strength.specs.Roots.{SquareRoot}
use Rattle.strength.proofs.Greatest.{square_root_of_lem}
use Rattle.wide.proofs.Powers.{square_lt, square_is}
use Rattle.group.specs.declared.member.Taken.{Taken}
use Rattle.joint.specs.Use.{plane_force, row_force, WithinUse, Above0}
use Rattle.std.specs.Int.{div_ceil}
use Rattle.std.proofs.lemmas.Grind.{div_ceil_times}
use Rattle.joint.specs.Returned.{Demand, ceiling_of, scaled_force_of, total_use_of, row_use_of, use_of, DemandWithin, RowWithin}
use Rattle.joint.proofs.UseSizes.{total_some, row_some}
use Rattle.joint.proofs.UseLaws.{total_enough, row_enough, total_within, row_within}

ceiling_reaches : (a b : ℕ) → 0 < b → a ≤ ceiling_of a b * b
unfolding ceiling_of
ceiling_reaches a b h = omega (arith, div-add-mod' (a + (b - 1)) b, mod-lt (a + (b - 1)) h)

ceiling_tight : (a b : ℕ) → 0 < b → ceiling_of a b * b < a + b
unfolding ceiling_of
ceiling_tight a b h = omega (arith, div-add-mod' (a + (b - 1)) b)

-- it is the one that std works out
no_greater : (a b x y : ℕ) → x * b < a + b → a ≤ y * b → x ≤ y
no_greater a b x y h g = let l : x < y + 1 = lt_of_mul-lt-mul_right b (omega arith) in omega arith

pub ceiling_is : (a b : ℕ) → 0 < b → div_ceil a b ≡ ceiling_of a b
ceiling_is a b h =
    let t = div_ceil_times a b h in
    le_antisymm (no_greater a b (div_ceil a b) (ceiling_of a b) t.1 (ceiling_reaches a b h)) (no_greater a b (ceiling_of a b) (div_ceil a b) (ceiling_tight a b h) t.0)

-- the greatest of three is one of them
one_of : (a b c : ℕ) → (max (max a b) c ≡ a) ⊎ ((max (max a b) c ≡ b) ⊎ (max (max a b) c ≡ c))
one_of a b c = go (dec_le c (max a b)) (dec_le b a)
  where
    go : Dec (c ≤ max a b) → Dec (b ≤ a) → (max (max a b) c ≡ a) ⊎ ((max (max a b) c ≡ b) ⊎ (max (max a b) c ≡ c))
    go (yes p) (yes q) = inl (omega arith)
    go (yes p) (no q) = inr (inl (omega arith))
    go (no p) q = inr (inr (omega arith))

-- the greatest whole number of 1024ths of a newton in a force of that square
abbrev pub force_below : ℕ → ℕ
force_below total = square_root_of (1048576 * total)

-- in some row of a member the check passes at 2 more than its share
abbrev pub RowPasses : (Fraction → Type 0) → Fraction → ℕ → Fraction → Taken → Type 0
RowPasses P T h v m = (n : ℕ) × (0 < n) × P (row_force m.along n (((m.share + 2) * n) over 10000) T h v)

module _ (d : Demand) (w : DemandWithin d) where
  root : SquareRoot (1048576 * d.total) (force_below d.total)
  root = square_root_of_lem (1048576 * d.total) (omega (arith, w.total_high))

  force_above : 1048576 * d.total < scaled_force_of d.total * scaled_force_of d.total
  unfolding scaled_force_of
  force_above = root.high

  pub force_below_lem : (force_below d.total over 1024 ↑ 2) ≼ whole d.total
  force_below_lem = rw (square_is (force_below d.total)) (omega (arith, root.low))

  force_some : 1024 ≤ force_below d.total
  force_some = omega (arith, square_lt 1024 (force_below d.total + 1) (omega (arith, root.high, w.total_low)))

  -- the divisors of the ceilings
  abbrev by_total : ℕ
  by_total = 1024 * (d.planes2 * d.kmod) * d.capacity

  abbrev by_row : Taken → ℕ
  by_row m = d.planes2 * (d.kmod / 5) * m.share * d.capacity

  five_times : (E : ℕ) → d.planes2 * d.kmod * E * d.capacity ≡ 5 * (d.planes2 * (d.kmod / 5) * E * d.capacity)
  five_times E =
      let fifth : d.kmod / 5 * 5 ≡ d.kmod = omega (arith, w.check.kmod_fifth) in
      omega (arith, ap (λ (z : ℕ). d.planes2 * z * E * d.capacity) fifth)

  total_reached : 2600000000 * scaled_force_of d.total ≤ use_of d * by_total
  unfolding total_use_of use_of
  total_reached =
      let U : total_use_of d ≤ use_of d = omega arith in
      omega (arith, mul-le-mul_right by_total U, ceiling_reaches (2600000000 * scaled_force_of d.total) by_total (total_some d w))

  row_reached :
      (m : Taken) → RowWithin m → row_use_of d m ≤ use_of d →
      26000000000000 * m.along ≤ use_of d * (d.planes2 * d.kmod * m.share * d.capacity)
  unfolding row_use_of
  row_reached m r h =
      rw (five_times m.share)
      (omega (arith, mul-le-mul_right (by_row m) h, ceiling_reaches (5200000000000 * m.along) (by_row m) (row_some d w m r)))

  total_tight : use_of d ≡ total_use_of d → use_of d * by_total < 2600000000 * (force_below d.total + 1) + by_total
  unfolding total_use_of scaled_force_of
  total_tight e = rw e (ceiling_tight (2600000000 * (force_below d.total + 1)) by_total (total_some d w))

  row_tight :
      (m : Taken) → RowWithin m → use_of d ≡ row_use_of d m →
      use_of d * (d.planes2 * d.kmod * m.share * d.capacity)
      < 26000000000000 * m.along + d.planes2 * d.kmod * m.share * d.capacity
  unfolding row_use_of
  row_tight m r e =
      rw (five_times m.share, e) (omega (arith, ceiling_tight (5200000000000 * m.along) (by_row m) (row_some d w m r)))

  pub use_positive : 0 < use_of d
  unfolding scaled_force_of
  use_positive = lt_of_not-le (λ h. absurd (omega (arith, total_reached, mul-le-mul_right by_total h)))

  pub u_row1 : row_use_of d d.member1 ≤ use_of d
  unfolding use_of
  u_row1 = omega arith

  pub u_row2 : row_use_of d d.member2 ≤ use_of d
  unfolding use_of
  u_row2 = omega arith

  which : (use_of d ≡ total_use_of d) ⊎ ((use_of d ≡ row_use_of d d.member1) ⊎ (use_of d ≡ row_use_of d d.member2))
  unfolding use_of
  which = one_of (total_use_of d) (row_use_of d d.member1) (row_use_of d d.member2)

  module _ (P : Fraction → Type 0) (falls : (x y : Fraction) → Proper x → y ≼ x → P x → P y)
      (low : P (d.capacity over 1000)) (high : P ((d.capacity + 2) over 1000) → ⊥)
      (T : Fraction) (twice : 2 * T.num ≡ d.planes2 * T.den) where
    -- the use is enough
    pub force_enough :
        (g : Fraction) → Proper g → (g ↑ 2) ≼ whole d.total → P (plane_force g T d.kmod (use_of d over 10000))
    force_enough =
        total_enough P falls d.capacity low high T d.planes2 d.kmod (use_of d) twice
        d.total (scaled_force_of d.total) force_above total_reached

    pub rows_enough :
        (m : Taken) → RowWithin m → row_use_of d m ≤ use_of d →
        (n : ℕ) (e : Fraction) → m.share * n * e.den ≤ 10000 * e.num →
        P (row_force m.along n e T d.kmod (use_of d over 10000))
    rows_enough m r h n =
        row_enough P falls d.capacity low high T d.planes2 d.kmod (use_of d) twice
        m.along n m.share (omega (arith, r.share_low)) (row_reached m r h)

    -- and no more than 10,050 v + 2 for a v at which the force and a row of each member pass
    module _ (T-above0 : Above0 T) (v : Fraction) (v-above0 : Above0 v) where
      kmod_some : 0 < d.kmod
      kmod_some = omega (arith, w.check.kmod_low)

      row : (m : Taken) → RowWithin m → use_of d ≡ row_use_of d m → RowPasses P T d.kmod v m → WithinUse (use_of d) v
      row m r e q =
          row_within P falls d.capacity low high T d.planes2 d.kmod (use_of d) twice
          w.check.capacity_low T-above0.num T-above0.den kmod_some v v-above0
          m.along q.0 m.share q.1 r.share_low (row_tight m r e) q.2

      pub use_within :
          P (plane_force (force_below d.total over 1024) T d.kmod v) →
          RowPasses P T d.kmod v d.member1 → RowPasses P T d.kmod v d.member2 → WithinUse (use_of d) v
      use_within p r₁ r₂ = ⊎_elim by_force (⊎_elim (λ e. row d.member1 w.row1 e r₁) (λ e. row d.member2 w.row2 e r₂)) which
        where
          by_force : use_of d ≡ total_use_of d → WithinUse (use_of d) v
          by_force e =
              total_within P falls d.capacity low high T d.planes2 d.kmod (use_of d) twice
              w.check.capacity_low T-above0.num T-above0.den kmod_some v v-above0
              (force_below d.total) force_some (total_tight e) p
