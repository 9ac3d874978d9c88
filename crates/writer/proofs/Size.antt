-- A record that passes 1 to 6 has 78 + 8N bytes, in whichever order its parts stand.
use Prim.Native.Nat.{ℕ, ◌+◌, ◌*◌, ◌≤◌, ◌<◌}
use mathlib.Core.Path.{◌≡◌, sym, ap, ◌∙◌}
use mathlib.Core.List.{List}
use mathlib.Core.Bool.{Bool, true, false, cond, ◌&&◌, and-eq-true_iff}
use native.Mathlib.Omega.{arith}
use borrow.Author.Tests.{eqb-true, not-false}
use lib.Dec.{eqb, leb}
use lib.ListN.{length}
use Rattle.numbers.specs.Numbers.{u8_at, u16_at}
use Rattle.chain.specs.declared.Width.TheVariants.{Two}
use Rattle.chain.specs.Chain.{number_at, offset_of, bound, all_follow, chained}
use Rattle.chain.proofs.Laws.{follow}
use Rattle.joint.specs.Layout.{pair_length, kind_of_pair, pair_of_kind, part_of_kind}
use Rattle.joint.specs.Refusal.{refusal4, one_if, once, refusal5, positions_length, refusal6}
use Rattle.joint.proofs.Stages.{parted, one_kind, part_length}

-- where one of four tests holds, what stands at its place
picked : (f : ℕ → ℕ) (a b c d : Bool) → one_if a + one_if b + one_if c + one_if d ≡ 1
    → f (cond a 1 (cond b 2 (cond c 3 4))) ≡ one_if a * f 1 + one_if b * f 2 + one_if c * f 3 + one_if d * f 4
unfolding one_if
picked f true false false false h = omega arith
picked f false true false false h = omega arith
picked f false false true false h = omega arith
picked f false false false true h = omega arith
picked f false false false false h = absurd (omega arith)
picked f true true c d h = absurd (omega arith)
picked f true false true d h = absurd (omega arith)
picked f true false false true h = absurd (omega arith)
picked f false true true d h = absurd (omega arith)
picked f false true false true h = absurd (omega arith)
picked f false false true true h = absurd (omega arith)

-- a row of numbers that are 1 together, times l
row_of : (a b c d l : ℕ) → a + b + c + d ≡ 1 → a * l + b * l + c * l + d * l ≡ l
row_of a b c d l h = omega (arith, ap (λ (z : ℕ). z * l) h)

-- sixteen numbers, added by columns and by rows
by_rows : (a1 a2 a3 a4 b1 b2 b3 b4 c1 c2 c3 c4 d1 d2 d3 d4 a b c d : ℕ) → a1 + a2 + a3 + a4 ≡ a → b1 + b2 + b3 + b4 ≡ b → c1 + c2 + c3 + c4 ≡ c
    → d1 + d2 + d3 + d4 ≡ d
    → a1 + b1 + c1 + d1 + (a2 + b2 + c2 + d2) + (a3 + b3 + c3 + d3) + (a4 + b4 + c4 + d4) ≡ a + b + c + d
by_rows a1 a2 a3 a4 b1 b2 b3 b4 c1 c2 c3 c4 d1 d2 d3 d4 a b c d ra rb rc rd = omega arith

-- four parts, each from where the one before ends
chain_sum : (o1 l1 o2 l2 o3 l3 o4 l4 all : ℕ) → o1 ≡ 20 → o2 ≡ o1 + l1 → o3 ≡ o2 + l2 → o4 ≡ o3 + l3 → all ≡ o4 + l4
    → all ≡ 20 + (l1 + l2 + l3 + l4)
chain_sum o1 l1 o2 l2 o3 l3 o4 l4 all e1 e2 e3 e4 e = omega arith

module _ (s : List ℕ) where
  -- whether pair i has the kind, as a number
  abbrev c : ℕ → ℕ → ℕ
  c i kind = one_if (eqb (kind_of_pair s i) kind)

  abbrev l : ℕ → ℕ
  l = pair_length s

  module _ (five : refusal5 s ≡ false) where
    occurs : (kind : ℕ) → once s kind ≡ true → c 1 kind + c 2 kind + c 3 kind + c 4 kind ≡ 1
    unfolding once
    occurs kind h = eqb-true _ 1 h

    each : (once s 1 ≡ true) × (once s 2 ≡ true) × (once s 3 ≡ true) × (once s 4 ≡ true)
    unfolding refusal5
    each =
        let h : (once s 1 && once s 2 && once s 3 && once s 4) ≡ true = not-false _ five in
        let p = simp and-eq-true_iff at h in (p.0.0.0, p.0.0.1, p.0.1, p.1)

    of_kind : (kind : ℕ) → once s kind ≡ true → l (pair_of_kind s kind) ≡ c 1 kind * l 1 + c 2 kind * l 2 + c 3 kind * l 3 + c 4 kind * l 4
    unfolding pair_of_kind
    of_kind kind h = picked l _ _ _ (eqb (kind_of_pair s 4) kind) (occurs kind h)

    -- a pair is of one kind
    row : (i : ℕ) → c i 1 + c i 2 + c i 3 + c i 4 ≤ 1
    row i = one_kind (kind_of_pair s i)

    whole : l (pair_of_kind s 1) + l (pair_of_kind s 2) + l (pair_of_kind s 3) + l (pair_of_kind s 4) ≡ l 1 + l 2 + l 3 + l 4
    whole =
        let o1 = occurs 1 each.0 in
        let o2 = occurs 2 each.1 in
        let o3 = occurs 3 each.2 in
        let o4 = occurs 4 each.3 in
        let r1 : c 1 1 + c 1 2 + c 1 3 + c 1 4 ≡ 1 = omega (arith, row 1, row 2, row 3, row 4) in
        let r2 : c 2 1 + c 2 2 + c 2 3 + c 2 4 ≡ 1 = omega (arith, row 1, row 2, row 3, row 4) in
        let r3 : c 3 1 + c 3 2 + c 3 3 + c 3 4 ≡ 1 = omega (arith, row 1, row 2, row 3, row 4) in
        let r4 : c 4 1 + c 4 2 + c 4 3 + c 4 4 ≡ 1 = omega (arith, row 1, row 2, row 3, row 4) in
        (λ i. of_kind 1 each.0 i + of_kind 2 each.1 i + of_kind 3 each.2 i + of_kind 4 each.3 i)
        ∙ by_rows _ _ _ _ _ _ _ _ _ _ _ _ _ _ _ _ (l 1) (l 2) (l 3) (l 4) (row_of _ _ _ _ (l 1) r1) (row_of _ _ _ _ (l 2) r2) (row_of _ _ _ _ (l 3) r3)
        (row_of _ _ _ _ (l 4) r4)

    -- ---- the parts lie end to end
    module _ (right : chained Two s 4 20 4 ≡ true) where
      at_end : bound Two s 4 20 4 ≡ length s
      unfolding chained
      at_end = eqb-true _ _ ((and-eq-true_iff (all_follow Two s 4 20 4) _).0 right).1

      start : (k : ℕ) → k < 4 → offset_of Two s 4 k ≡ bound Two s 4 20 k
      start k h = (follow Two s 4 20 4 right k h).start

      end_to_end : length s ≡ 20 + (l 1 + l 2 + l 3 + l 4)
      unfolding bound number_at
      end_to_end =
          chain_sum (u16_at s 4) (l 1) (u16_at s 8) (l 2) (u16_at s 12) (l 3) (u16_at s 16) (l 4) (length s)
          (start 0 (omega arith))
          (start 1 (omega arith))
          (start 2 (omega arith))
          (start 3 (omega arith))
          (sym at_end)

-- ---- its size
module _ (s : List ℕ) (four : refusal4 s ≡ false) (five : refusal5 s ≡ false) (six : refusal6 s ≡ false) where
  right : chained Two s 4 20 4 ≡ true
  unfolding refusal4
  right = not-false _ four

  record Sizes : Type 0 where
    members : length (part_of_kind s 1) ≡ 42
    dowel : length (part_of_kind s 2) ≡ 3
    positions : length (part_of_kind s 3) ≡ 2 + 8 * u8_at (part_of_kind s 3) 1
    loads : length (part_of_kind s 4) ≡ 11

  sizes : Sizes
  unfolding refusal6 positions_length
  sizes =
      let h : (eqb (length (part_of_kind s 1)) 42 && eqb (length (part_of_kind s 2)) 3
      && (leb 2 (length (part_of_kind s 3)) && eqb (length (part_of_kind s 3)) (2 + 8 * u8_at (part_of_kind s 3) 1))
      && eqb (length (part_of_kind s 4)) 11) ≡ true =
      not-false _ six in
      let t = simp and-eq-true_iff at h in
      record {
        members = eqb-true _ _ t.0.0.0;
        dowel = eqb-true _ _ t.0.0.1;
        positions = eqb-true _ _ t.0.1.1;
        loads = eqb-true _ _ t.1;
      }

  pub size_is : length s ≡ 78 + 8 * u8_at (part_of_kind s 3) 1
  size_is =
      let q = parted s four in
      let a = sym (part_length q 1) ∙ sizes.members in
      let b = sym (part_length q 2) ∙ sizes.dowel in
      let c = sym (part_length q 3) ∙ sizes.positions in
      let d = sym (part_length q 4) ∙ sizes.loads in
      end_to_end s five right
      ∙ ap (λ (z : ℕ). 20 + z) (sym (whole s five))
      ∙ (λ i. 20 + (a i + b i + c i + d i))
      ∙ omega arith
