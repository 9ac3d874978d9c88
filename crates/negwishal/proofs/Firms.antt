-- A table that two firms share (02, A6): what a firm gets of it is what A4's table of the same entries gives, and does not depend on the other firm's
-- stretch.
use Prim.Native.Nat.{ℕ}
use native.Mathlib.Omega.{arith}
use mathlib.Core.Path.{◌≡◌, sym, ap, subst}
use mathlib.Core.Bool.{true, false}
use mathlib.Core.List.{List}
use Rattle.tables.specs.Pairs.{refusal14}
use Rattle.tables.specs.Table.{Table, table_number, Right, own_table, refusal16, shared_table, alone_bytes, SameFor}
use Rattle.tables.proofs.Loading.{own_right, shared_right}
use Rattle.tables.proofs.Firms.{other_firm, other_layout, alone, same_for}
use Rattle.negwishal.specs.Same.{SameAnswers, RefusedBy}
use Rattle.negwishal.proofs.Alike.{same_answers, refused}

equal : (t u : Table) → Right t → Right u → t ≡ u → SameAnswers t u
equal t u p q e = same_answers t u p q (record { number = ap table_number e; classes = ap (λ (x : Table). x.classes) e })

-- 'that firm's stretch only, which loads and judges as A4's table of the same entries would'
pub as_alone : (firm : ℕ) (b : List ℕ) → refusal16 firm ≡ false → refusal14 2 b ≡ false
    → SameAnswers (shared_table firm b) (own_table (alone_bytes firm b))
as_alone firm b f h =
    equal (shared_table firm b) (own_table (alone_bytes firm b)) (shared_right firm b) (own_right (alone_bytes firm b)) (alone firm b f h)

-- 'With the pairs fixed, firm 1's loading result and all its reports come out alike for every content of firm 2's stretch, faulty content
-- included, and the other way round'
pub isolated : (firm : ℕ) (a b : List ℕ) → SameFor firm a b → SameAnswers (shared_table firm a) (shared_table firm b)
isolated firm a b same = equal (shared_table firm a) (shared_table firm b) (shared_right firm a) (shared_right firm b) (same_for firm a b same)

-- '.. give 14 to both', whatever stands in the stretches
pub both_14 : (firm : ℕ) (b : List ℕ) → refusal16 firm ≡ false → refusal14 2 b ≡ true → RefusedBy 14 (shared_table firm b)
both_14 firm b f h = subst (RefusedBy 14) (sym (other_layout firm b f h)) (refused 14 (λ e. omega arith))

-- '16 .. before anything else'
pub others_16 : (firm : ℕ) (b : List ℕ) → refusal16 firm ≡ true → RefusedBy 16 (shared_table firm b)
others_16 firm b f = subst (RefusedBy 16) (sym (other_firm firm b f)) (refused 16 (λ e. omega arith))
