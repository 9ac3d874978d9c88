-- A list's numbers in 64 places, and then 0.
use Prim.Native.Nat.{ℕ, zero, suc, ◌≤◌, ◌<◌}
use mathlib.Core.List.{List, [], ◌∷◌, ◌++◌, append_assoc}
use mathlib.Core.Path.{◌≡◌, refl, sym, ap, ◌∙◌}
use native.Mathlib.Omega.{arith}
use lib.IntN.{ℤ, pos}
use lib.ListN.{length, get_or, set, take, drop, replicate}
use lib.Seq.{drop-cons, take-length, take-suc, set-append_seam}
use Rattle.std.proofs.lemmas.List.{length-take-le}
use Rattle.joint.specs.Layout.{column}
use Rattle.writer.specs.Write.{placed}

-- number n put after the first n, in place of what stood there
one_more : (l r : List ℤ) (n : ℕ) → n < length l → n < length r
    → set (take n l ++ drop n r) n (get_or l n (pos 0)) ≡ take (suc n) l ++ drop (suc n) r
one_more l r n h k =
    let v = get_or l n (pos 0) in
    let past = get_or r n (pos 0) ∷ drop (suc n) r in
    ap (λ (q : List ℤ). set (take n l ++ q) n v) (drop-cons r n (pos 0) k)
    ∙ ap (λ (i : ℕ). set (take n l ++ past) i v) (sym (length-take-le n l (omega arith)))
    ∙ set-append_seam (take n l) (get_or r n (pos 0)) (drop (suc n) r) v
    ∙ sym (ap (λ (q : List ℤ). q ++ drop (suc n) r) (take-suc l n (pos 0) h) ∙ append_assoc (take n l) (v ∷ []) (drop (suc n) r))

so_far : (l : List ℤ) (n : ℕ) → n ≤ length l → n ≤ 64 → column (λ k. get_or l k (pos 0)) n ≡ take n l ++ drop n (replicate 64 (pos 0))
unfolding column
so_far l zero h k = refl
so_far l (suc n) h k =
    ap (λ (q : List ℤ). set q n (get_or l n (pos 0))) (so_far l n (omega arith) (omega arith))
    ∙ one_more l (replicate 64 (pos 0)) n (omega arith) (omega arith)

pub in_places : (l : List ℤ) → length l ≤ 64 → l ++ drop (length l) (replicate 64 (pos 0)) ≡ placed l
in_places l h = sym (so_far l (length l) (omega arith) h ∙ ap (λ (q : List ℤ). q ++ drop (length l) (replicate 64 (pos 0))) (take-length l))
