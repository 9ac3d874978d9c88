-- The greatest cell of a table, by a test that the check works out on the typed table.
use Rattle.std.proofs.Common.{◌≡◌, ℕ, zero, suc, ◌/◌, ◌%◌, ◌≤◌, Bool, true, false, cond, T, leb, List, [], ◌∷◌, get_or, arith, leb→le}
use Rattle.printed.specs.Cells.{cell_of}

abbrev pub group_within : ℕ → List ℕ → Bool
group_within most [] = true
group_within most (x ∷ xs) = cond (leb x most) (group_within most xs) false

abbrev pub all_within : ℕ → List (List ℕ) → Bool
all_within most [] = true
all_within most (g ∷ gs) = cond (group_within most g) (all_within most gs) false

first : (a b : Bool) → T (cond a b false) → T a
first true b t = tt
first false b t = absurd t

second : (a b : Bool) → T (cond a b false) → T b
second true b t = t
second false b t = absurd t

group_bound : (most : ℕ) (g : List ℕ) (i : ℕ) → T (group_within most g) → get_or g i 0 ≤ most
group_bound most [] i t = omega arith
group_bound most (x ∷ xs) zero t = leb→le x most (first (leb x most) (group_within most xs) t)
group_bound most (x ∷ xs) (suc i) t = group_bound most xs i (second (leb x most) (group_within most xs) t)

group_of : (most : ℕ) (gs : List (List ℕ)) (i : ℕ) → T (all_within most gs) → T (group_within most (get_or gs i []))
group_of most [] i t = tt
group_of most (g ∷ gs) zero t = first (group_within most g) (all_within most gs) t
group_of most (g ∷ gs) (suc i) t = group_of most gs i (second (group_within most g) (all_within most gs) t)

pub cell_bound : {x : ℕ} (most : ℕ) (gs : List (List ℕ)) (cell : ℕ) → x ≡ cell_of gs cell → T (all_within most gs) → x ≤ most
unfolding cell_of
cell_bound most gs cell e t = rw e (group_bound most (get_or gs (cell / 3) []) (cell % 3) (group_of most gs (cell / 3) t))
