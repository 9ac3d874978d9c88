-- Where no two dowels of a member are too close, its share is at least 4,000 ten-thousandths.
use mathlib.Core.Path.{◌≡◌, refl, sym}
use mathlib.Core.Bool.{Bool, true, false, ◌||◌, false≢true, and-eq-true_iff}
use mathlib.Core.List.{List}
use Prim.Native.Nat.{ℕ, ◌*◌, ◌^◌, ◌≤◌, ◌<◌}
use native.Mathlib.Nat.{mul-le-mul, mul-le-mul_left, mul-le-mul_right, le_trans, pow-le-pow_left, le_of_eq}
use native.Mathlib.Omega.{arith}
use borrow.Author.Tests.{le-leb, lt-leb, leb-true, not-false}
use lib.Dec.{leb, lit≤}
use lib.IntN.{ℤ}
use Rattle.wide.proofs.Powers.{mul_pow}
use Rattle.spacing.specs.declared.view.Frame.{Frame}
use Rattle.spacing.specs.Spacing.{place, distance, square, squared_force, along_enough, pair_passes, too_close}
use Rattle.spacing.specs.Says.{NoPair}
use Rattle.spacing.proofs.Integers.{distance_turned}
use Rattle.group.specs.Share.{units, in_window, farthest, window_number, window_closest, row_passes, member_share}
use Rattle.group.proofs.Counting.{count_bound, closest_from}
use Rattle.group.proofs.Shares.{all_true, greatest_from}
use Rattle.group.proofs.RowLaws.{window_all_near}

-- ---- two dowels of a row that are not too close
alone : (s : Bool) → s || false ≡ true → s ≡ true
alone true h = refl
alone false h = absurd (false≢true h)

along_from : (d part total x : ℕ) → along_enough d part total x ≡ true → 30 * d ≤ x
unfolding along_enough
along_from d part total x h = leb-true (30 * d) x ((and-eq-true_iff (leb (30 * d) x) _).0 h).0

pair_from :
    (v : Frame) (d x y : ℕ) → y < 30 * d → pair_passes v d x y ≡ true → 30 * d ≤ x
pair_from v d x y l h =
    along_from d (square v.force) (squared_force v.force v.sideways) x (alone _ (rw (lt-leb (30 * d) y l) at h))

module _ (v : Frame) (d reach : ℕ) (a b : List ℤ) (count : ℕ) (thick : d ≤ 30) (narrow : reach ≤ 30 * d)
    (apart : NoPair (too_close v d a b) count) where
  ordered : (i j : ℕ) → i < j → j < count → distance b i j < reach → 30 * d ≤ distance a j i
  ordered i j h q n =
      rw (distance_turned (place a i) (place a j))
      (pair_from v d (distance a i j) (distance b i j) (omega (arith, n))
      (not-false (pair_passes v d (distance a i j) (distance b i j)) (apart i j h q)))

  near_from : (z : ℤ) → 30 * d ≤ window_closest a b count reach z
  near_from z =
      closest_from farthest (in_window b reach z) a count (30 * d) (omega arith)
      (λ i j h q s t. ordered i j h q (window_all_near b count reach z i j (omega arith) q s t))

-- ---- 0.4 of 64 dowels at 3d
shuffled : (P Q N U R X : ℕ) → P * (Q * N) ≤ U * R → P * (Q * X * N) ≤ U * (R * X)
shuffled P Q N U R X h = omega (arith, mul-le-mul_right X h)

four_tenths : (d n a1 : ℕ) → n ≤ 64 → 30 * d ≤ a1 → row_passes d n a1 4000 ≡ true
unfolding row_passes units
four_tenths d n a1 hn ha =
    le-leb _ _
    (le_trans
    (mul-le-mul_left ((4000 ^ 4) ^ 5) (mul-le-mul (le_of_eq (mul_pow 130 d 5)) (mul-le-mul hn hn)))
    (le_trans
    (shuffled ((4000 ^ 4) ^ 5) (130 ^ 5) 4096 (10000 ^ 20) (30 ^ 5) (d ^ 5) (lit≤ tt))
    (mul-le-mul_left (10000 ^ 20) (le_trans (le_of_eq (sym (mul_pow 30 d 5))) (pow-le-pow_left ha 5)))))

pub share_from :
    (v : Frame) (d reach : ℕ) (a b : List ℤ) (count : ℕ) → d ≤ 30 → reach ≤ 30 * d → count ≤ 64 →
    NoPair (too_close v d a b) count → 4000 ≤ member_share d reach a b count
unfolding member_share
share_from v d reach a b count thick narrow most apart =
    greatest_from _ 4000 10000 (lit≤ tt)
    (all_true _ count (λ i h.
    four_tenths d (window_number b count reach (place b i)) (window_closest a b count reach (place b i))
    (le_trans (count_bound (in_window b reach (place b i)) count) most)
    (near_from v d reach a b count thick narrow apart (place b i))))
