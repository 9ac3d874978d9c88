-- What is needed of a wood that the table has, whatever its codes: a code of one byte, a density from 290 to 1,100, and k90 from 990 to
-- 1,800.
use Prim.Native.Nat.{ℕ, ◌≤◌}
use mathlib.Core.Path.{◌≡◌, refl, ap, ◌∙◌}
use mathlib.Core.Bool.{Bool, true, false, cond, ◌&&◌, and-eq-true_iff, false≢true}
use mathlib.Core.List.{List, [], ◌∷◌}
use native.Mathlib.Omega.{arith}
use borrow.Author.Tests.{leb-true, eqb-true}
use lib.Dec.{leb, eqb}
use Rattle.std.specs.Prelude.{Option, Some, None}
use Rattle.codes.specs.declared.Kind.{Kind}
use Rattle.codes.specs.declared.Kind.TheVariants.{Softwood, Hardwood}
use Rattle.codes.specs.declared.Wood.{Wood}
use Rattle.codes.specs.Tables.{Line, lookup, printed_classes, is_known, wood_in, k90_of}

-- ---- a line's test: its code and its density
unfoldable pub line_test : ℕ → Option Wood → Bool
line_test code (Some w) = leb code 255 && (leb 290 w.density && leb w.density 1100)
line_test code None = true

unfoldable pub lines_pass : List (Line (Option Wood)) → Bool
lines_pass [] = true
lines_pass (l ∷ ls) = line_test l.code l.entry && lines_pass ls

-- a test that every line passes is passed at every code that the table has
found_passes : (ls : List (Line (Option Wood))) → lines_pass ls ≡ true → (c : ℕ) → is_known (lookup None ls c) ≡ true
    → line_test c (lookup None ls c) ≡ true
unfolding lines_pass
found_passes [] h c k = absurd (false≢true k)
found_passes (l ∷ ls) h c k =
    let parts = (and-eq-true_iff (line_test l.code l.entry) (lines_pass ls)).0 h in
    go (eqb c l.code) refl parts.0 (found_passes ls parts.1 c) k
  where
    go :
        (b : Bool) → eqb c l.code ≡ b → line_test l.code l.entry ≡ true
        → (is_known (lookup None ls c) ≡ true → line_test c (lookup None ls c) ≡ true)
        → is_known (cond b l.entry (lookup None ls c)) ≡ true → line_test c (cond b l.entry (lookup None ls c)) ≡ true
    go true e here later k = ap (λ (n : ℕ). line_test n l.entry) (eqb-true c l.code e) ∙ here
    go false e here later k = later k

pub record Passed (code : ℕ) (c : Option Wood) : Type 0 where
  pub byte : code ≤ 255
  pub low : 290 ≤ (wood_in c).density
  pub high : (wood_in c).density ≤ 1100

passed : (code : ℕ) (c : Option Wood) → is_known c ≡ true → line_test code c ≡ true → Passed code c
unfolding line_test
passed code (Some w) k t =
    let p = simp and-eq-true_iff at t in
    record { byte = leb-true _ _ p.0; low = leb-true _ _ p.1.0; high = leb-true _ _ p.1.1 }
passed code None k t = absurd (false≢true k)

pub passed_at : (ls : List (Line (Option Wood))) → lines_pass ls ≡ true → (code : ℕ) → is_known (lookup None ls code) ≡ true → Passed code (lookup None ls code)
passed_at ls h code k = passed code _ k (found_passes ls h code k)

pub printed_pass : lines_pass printed_classes ≡ true
unfolding printed_classes lines_pass line_test
printed_pass = refl

-- ---- k90
pub k90_low : (k : Kind) (d : ℕ) → 6 ≤ d → 990 ≤ k90_of k d
k90_low Softwood d h = omega arith
k90_low Hardwood d h = omega arith

pub k90_high : (k : Kind) (d : ℕ) → d ≤ 30 → k90_of k d ≤ 1800
k90_high Softwood d h = omega arith
k90_high Hardwood d h = omega arith
