-- Laws of the 64 places that a coordinate's numbers stand in, and of the scan over them.
use Prim.Native.Nat.{ℕ, zero, suc, ◌+◌, ◌≤◌, ◌<◌, min}
use native.Mathlib.Numerals.{add-one}
use native.Mathlib.Decide.{le_ind}
use native.Mathlib.Omega.{arith}
use mathlib.Core.Path.{◌≡◌, refl, sym, ap, ◌∙◌}
use mathlib.Core.List.{List}
use mathlib.Core.Bool.{Bool, true, false, ◌&&◌}
use Rattle.std.specs.List.{list_all}
use Rattle.std.proofs.lemmas.List.Folds.{list_all_more}
use borrow.Author.Tests.{leb-true, leb-false}
use lib.Dec.{leb}
use lib.IntN.{ℤ, pos}
use lib.ListN.{length, get_or, set, take, replicate, length-set}
use lib.Seq.{set_out}
use Rattle.numbers.specs.Numbers.{i32_at, coordinate}
use Rattle.joint.specs.Layout.{position_field, column}
use Rattle.joint.specs.Stage.{eighths}
use Rattle.std.specs.Array.{AllOfLen}
use Rattle.std.proofs.lemmas.List.{same_lists, length-replicate, get_or-replicate}
use Rattle.joint.specs.declared.Positions.{Positions}
use Rattle.joint.specs.Refusal.{coordinates, zero_positions}

-- the first n numbers of a list, as they are scanned
pub coordinates_are : (l : List ℤ) (n : ℕ) → n ≤ length l → list_all coordinate (take n l) ≡ coordinates l n
unfolding coordinates
coordinates_are l zero h = refl
coordinates_are l (suc n) h =
    let more = rw add-one at (list_all_more coordinate l n (pos 0) (omega arith)) in
    more ∙ ap (λ (b : Bool). b && coordinate (get_or l n (pos 0))) (coordinates_are l n (omega arith))

module _ (f : ℕ → ℤ) where
  pub column_length : (n : ℕ) → length (column f n) ≡ 64
  unfolding column
  column_length zero = refl
  column_length (suc n) = length-set (column f n) n (f n) ∙ column_length n

  pub column_none : column f 0 ≡ replicate 64 (pos 0)
  unfolding column
  column_none = refl

  pub column_more : (i : ℕ) → column f (i + 1) ≡ set (column f i) i (f i)
  unfolding column
  column_more i = rw add-one

  -- a number past the last place is not kept
  column_past : (n : ℕ) → 64 ≤ n → column f n ≡ column f 64
  unfolding column
  column_past n h =
      le_ind (λ (m : ℕ). column f m ≡ column f 64)
      refl
      (λ m g p. set_out (column f m) m (f m) (rw (column_length m) g) ∙ p)
      n
      h

  pub column_places : (n : ℕ) → column f (min n 64) ≡ column f n
  column_places n = of (leb 64 n) refl
    where
      of : (b : Bool) → leb 64 n ≡ b → column f (min n 64) ≡ column f n
      of true h =
          let g : 64 ≤ n = leb-true _ _ h in
          let e : min n 64 ≡ 64 = omega arith in
          rw e (sym (column_past n g))
      of false h =
          let g : n < 64 = leb-false _ _ h in
          let e : min n 64 ≡ n = omega arith in
          rw e

-- columns of numbers that agree
pub column_same : (f g : ℕ → ℤ) (n : ℕ) → ((i : ℕ) → i < n → f i ≡ g i) → column f n ≡ column g n
unfolding column
column_same f g zero h = refl
column_same f g (suc n) h =
    ap (λ (l : List ℤ). set l n (f n)) (column_same f g n (λ i l. h i (omega arith)))
    ∙ ap (λ (z : ℤ). set (column g n) n z) (h n (omega arith))

-- x and y of the dowels, in every eighth byte from 2 and from 6 on
module _ (part : List ℕ) (n : ℕ) where
  pub x_column : column (eighths part 2) n ≡ column (position_field part 0) n
  x_column = column_same _ _ n (λ i l. ap (i32_at part) (omega arith))

  pub y_column : column (eighths part 6) n ≡ column (position_field part 1) n
  y_column = column_same _ _ n (λ i l. ap (i32_at part) (omega arith))

-- positions by `Default`, which says that each place is 0, are those of the definition
zeros : (l : List ℤ) → AllOfLen (λ z. z ≡ pos 0) l 64 → l ≡ replicate 64 (pos 0)
zeros l a =
    same_lists l (replicate 64 (pos 0)) (a.long ∙ sym (length-replicate 64 (pos 0)))
    (λ k d h. a.at k d (omega (arith, a.long)) ∙ sym (get_or-replicate 64 k (pos 0) d (omega (arith, a.long))))

pub zero_positions_is : {n : ℕ} {x y : List ℤ} → n ≡ 0 → AllOfLen (λ z. z ≡ pos 0) x 64 → AllOfLen (λ z. z ≡ pos 0) y 64
    → ◌≡◌ {A = Positions} (record { n = n; x = x; y = y }) zero_positions
zero_positions_is {n} {x} {y} e a b = λ i. record { n = e i; x = zeros x a i; y = zeros y b i }
