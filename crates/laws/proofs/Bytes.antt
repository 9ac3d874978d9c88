-- Records that are alike from byte 2 on: all but the version is read alike.
use Prim.Native.Nat.{ℕ, zero, suc, ◌≤◌}
use mathlib.Core.Path.{◌≡◌, refl, ap}
use mathlib.Core.Bool.{Bool, true, false, cond}
use mathlib.Core.List.{List, ◌∷◌}
use native.Mathlib.Omega.{arith}
use lib.ListN.{take, drop}
use borrow.Author.Tests.{not-false}
use Rattle.chain.specs.declared.Width.TheVariants.{Two}
use Rattle.chain.specs.Chain.{number_at, bound, all_follow, chained}
use Rattle.chain.proofs.Laws.{follow}
use Rattle.tables.specs.Tests.{first_holding}
use Rattle.tables.specs.Table.{Table}
use Rattle.joint.specs.Layout.{pair_offset, pair_length, part_of_pair, pair_of_kind, part_of_kind, values_of}
use Rattle.joint.specs.DesignOf.{design_of}
use Rattle.joint.specs.Refusal.{refusal1, refusal3, refusal4, refusal5, refusal6, once, fields_within, designer_tests}

module _ (a b x y : ℕ) (r : List ℕ) where
  abbrev pub one : List ℕ
  one = a ∷ b ∷ r

  abbrev pub other : List ℕ
  other = x ∷ y ∷ r

  dropped : (n : ℕ) → 2 ≤ n → drop n other ≡ drop n one
  dropped zero h = absurd (omega arith)
  dropped (suc zero) h = absurd (omega arith)
  dropped (suc (suc n)) h = refl

  -- the part of a pair whose numbers are the same, past the version
  same_stretch :
      (k : ℕ) → pair_offset other k ≡ pair_offset one k → pair_length other k ≡ pair_length one k → 2 ≤ pair_offset one k →
      part_of_pair other k ≡ part_of_pair one k
  unfolding part_of_pair
  same_stretch k p q h = rw (p, q) (ap (take (pair_length one k)) (dropped (pair_offset one k) h))

  pub same1 : refusal1 other ≡ refusal1 one
  unfolding refusal1
  same1 = refl

  pub same3 : refusal3 other ≡ refusal3 one
  unfolding refusal3
  same3 = refl

  pub same4 : refusal4 other ≡ refusal4 one
  unfolding refusal4 number_at bound all_follow chained
  same4 = refl

  -- past the header
  pub record Offsets : Type 0 where
    first : 2 ≤ pair_offset one 1
    second : 2 ≤ pair_offset one 2
    third : 2 ≤ pair_offset one 3
    fourth : 2 ≤ pair_offset one 4

  pub offsets : refusal4 one ≡ false → Offsets
  unfolding refusal4 number_at bound
  offsets h =
      let f = follow Two one 4 20 4 (not-false (chained Two one 4 20 4) h) in
      let f0 = (f 0 (omega arith)).start in
      let f1 = (f 1 (omega arith)).start in
      let f2 = (f 2 (omega arith)).start in
      let f3 = (f 3 (omega arith)).start in
      record { first = omega (arith, f0); second = omega (arith, f0, f1); third = omega (arith, f0, f1, f2); fourth = omega (arith, f0, f1, f2, f3) }

  module _ (o : Offsets) where
    part1 : part_of_pair other 1 ≡ part_of_pair one 1
    part1 = same_stretch 1 refl refl o.first

    part2 : part_of_pair other 2 ≡ part_of_pair one 2
    part2 = same_stretch 2 refl refl o.second

    part3 : part_of_pair other 3 ≡ part_of_pair one 3
    part3 = same_stretch 3 refl refl o.third

    part4 : part_of_pair other 4 ≡ part_of_pair one 4
    part4 = same_stretch 4 refl refl o.fourth

    picked : (p q s : Bool) → part_of_pair other (cond p 1 (cond q 2 (cond s 3 4))) ≡ part_of_pair one (cond p 1 (cond q 2 (cond s 3 4)))
    picked true q s = part1
    picked false true s = part2
    picked false false true = part3
    picked false false false = part4

    same_pair : (kind : ℕ) → pair_of_kind other kind ≡ pair_of_kind one kind
    unfolding pair_of_kind
    same_pair kind = simp (part1, part2, part3)

    pub same_part : (kind : ℕ) → part_of_kind other kind ≡ part_of_kind one kind
    unfolding pair_of_kind
    same_part kind = rw (same_pair kind) (picked _ _ _)

    pub same5 : refusal5 other ≡ refusal5 one
    unfolding refusal5 once
    same5 = simp (part1, part2, part3, part4)

    pub same6 : refusal6 other ≡ refusal6 one
    unfolding refusal6
    same6 = simp same_part

    pub same_values : (t : Table) → first_holding (designer_tests t other) ≡ first_holding (designer_tests t one)
    unfolding fields_within values_of
    same_values t = simp same_part

    pub same_design : (t : Table) → design_of t (values_of other) ≡ design_of t (values_of one)
    unfolding values_of
    same_design t = simp same_part
