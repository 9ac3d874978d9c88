-- k numbers are copied, the others are as they were.
use Prim.Native.Nat.{ℕ, ◌+◌, ◌<◌}
use lib.ListN.{length, take, drop, get_or, set, length-set}
use lib.Seq.{paste-suc, take-length}
use mathlib.Core.List.{List, ◌++◌}
use mathlib.Core.Path.{◌≡◌, ◌∙◌}
use native.Mathlib.Nat.{zero-add}
use native.Mathlib.Numerals.{add-one}
use native.Mathlib.Omega.{arith}
use Rattle.lent.proofs.copy.Goals as goal

-- a turn more
next : {A : Type 0} (s d : List A) (k : ℕ) (x : A) → k < length s → k < length d
    → set (take k s ++ drop k d) k (get_or s k x) ≡ take (k + 1) s ++ drop (k + 1) d
next s d k x h g = rw add-one (simp zero-add at (paste-suc d 0 s k x (simp zero-add g) h))

done : {A : Type 0} (s d : List A) (k : ℕ) {l : List A} → k ≡ length s → l ≡ take k s ++ drop k d → l ≡ s ++ drop (length s) d
done s d k e q = q ∙ rw (e, take-length)

pub loop-k-preserved : goal.loop-k-preserved
loop-k-preserved g c = let l = c.loop-k in
    let a = c.args in (
      omega arith,
      rw (c.index-from-k.is, l.invariant.1) (next a.from.now a.to.now l.k c.index-from-k.result (omega arith) (omega arith)),
      simp length-set l.invariant.2,
    )

pub returns : goal.returns
returns g c = done c.args.from.now c.args.to.now c.loop-k.k (omega (arith, c.loop-k.invariant.0)) c.loop-k.invariant.1
