-- Four parts put together as a record: its header, its pairs and its parts read as they were.
use Prim.Native.Nat.{ℕ, ◌+◌, ◌/◌, ◌%◌, ◌<◌}
use mathlib.Core.Path.{◌≡◌, refl, sym, ap, ◌∙◌}
use mathlib.Core.List.{List, [], ◌∷◌, ◌++◌}
use mathlib.Core.Bool.{Bool, true, false, not, ◌&&◌}
use native.Mathlib.Omega.{arith}
use borrow.Author.Tests.{eq-eqb, ne_eqb}
use lib.Dec.{eqb}
use lib.ListN.{length, take, drop, length-append}
use lib.Seq.{drop-drop, drop-append_seam, take-append_seam}
use Rattle.numbers.specs.Numbers.{u8_at}
use Rattle.numbers.proofs.Bytes.{u16_back}
use Rattle.chain.specs.Chain.{number_at, continues, bound, all_follow, chained}
use Rattle.joint.specs.Layout.{version, pair_count, pair_offset, pair_length, part_of_pair, kind_of_pair, pair_of_kind, part_of_kind, pairs_bytes, joined}
use Rattle.joint.specs.Refusal.{refusal4, refusal5, one_if, once}

-- 4, over the numbers of the pairs and the record'assembled length
broken : (o1 l1 o2 l2 o3 l3 o4 l4 all : ℕ) → Bool
broken o1 l1 o2 l2 o3 l3 o4 l4 all =
    not
    (true && continues o1 l1 20 && continues o2 l2 (o1 + l1) && continues o3 l3 (o2 + l2) && continues o4 l4 (o3 + l3)
    && eqb (o4 + l4) all)

unbroken : (a b c d : ℕ) → 0 < a → 0 < b → 0 < c → 0 < d
    → broken 20 a (20 + a) b (20 + a + b) c (20 + a + b + c) d (20 + a + b + c + d) ≡ false
unfolding broken
unbroken a b c d pa pb pc pd =
    simp (
      eq-eqb (20 + a) (20 + a) refl,
      eq-eqb (20 + a + b) (20 + a + b) refl,
      eq-eqb (20 + a + b + c) (20 + a + b + c) refl,
      eq-eqb (20 + a + b + c + d) (20 + a + b + c + d) refl,
      ne_eqb a 0 (λ e. omega arith),
      ne_eqb b 0 (λ e. omega arith),
      ne_eqb c 0 (λ e. omega arith),
      ne_eqb d 0 (λ e. omega arith),
    )

module _ (n : ℕ) (a b c d : List ℕ) where
  -- a record of four parts, in a version
  unfoldable pub assembled : List ℕ
  assembled =
      n % 256 ∷ n / 256 ∷ 4 ∷ 0 ∷ (pairs_bytes 20 (length a ∷ length b ∷ length c ∷ length d ∷ []) ++ joined (a ∷ b ∷ c ∷ d ∷ []))

  pub version_is : version assembled ≡ n
  unfolding assembled
  version_is = u16_back n

  pub count_is : pair_count assembled ≡ 4
  unfolding assembled
  count_is = refl

  -- ---- the pairs
  offset1 : pair_offset assembled 1 ≡ 20
  unfolding assembled pairs_bytes
  offset1 = refl

  length1 : pair_length assembled 1 ≡ length a
  unfolding assembled pairs_bytes
  length1 = u16_back (length a)

  offset2 : pair_offset assembled 2 ≡ 20 + length a
  unfolding assembled pairs_bytes
  offset2 = u16_back (20 + length a)

  length2 : pair_length assembled 2 ≡ length b
  unfolding assembled pairs_bytes
  length2 = u16_back (length b)

  offset3 : pair_offset assembled 3 ≡ 20 + length a + length b
  unfolding assembled pairs_bytes
  offset3 = u16_back (20 + length a + length b)

  length3 : pair_length assembled 3 ≡ length c
  unfolding assembled pairs_bytes
  length3 = u16_back (length c)

  offset4 : pair_offset assembled 4 ≡ 20 + length a + length b + length c
  unfolding assembled pairs_bytes
  offset4 = u16_back (20 + length a + length b + length c)

  length4 : pair_length assembled 4 ≡ length d
  unfolding assembled pairs_bytes
  length4 = u16_back (length d)

  -- ---- the parts
  body : drop 20 assembled ≡ a ++ (b ++ (c ++ (d ++ [])))
  unfolding assembled pairs_bytes joined
  body = refl

  after_a : drop (20 + length a) assembled ≡ b ++ (c ++ (d ++ []))
  after_a = sym (drop-drop (length a) 20 assembled) ∙ ap (drop (length a)) body ∙ drop-append_seam a (b ++ (c ++ (d ++ [])))

  after_b : drop (20 + length a + length b) assembled ≡ c ++ (d ++ [])
  after_b =
      sym (drop-drop (length b) (20 + length a) assembled) ∙ ap (drop (length b)) after_a ∙ drop-append_seam b (c ++ (d ++ []))

  after_c : drop (20 + length a + length b + length c) assembled ≡ d ++ []
  after_c =
      sym (drop-drop (length c) (20 + length a + length b) assembled) ∙ ap (drop (length c)) after_b ∙ drop-append_seam c (d ++ [])

  part1 : part_of_pair assembled 1 ≡ a
  unfolding part_of_pair
  part1 = (λ i. take (length1 i) (drop (offset1 i) assembled)) ∙ ap (take (length a)) body ∙ take-append_seam a (b ++ (c ++ (d ++ [])))

  part2 : part_of_pair assembled 2 ≡ b
  unfolding part_of_pair
  part2 = (λ i. take (length2 i) (drop (offset2 i) assembled)) ∙ ap (take (length b)) after_a ∙ take-append_seam b (c ++ (d ++ []))

  part3 : part_of_pair assembled 3 ≡ c
  unfolding part_of_pair
  part3 = (λ i. take (length3 i) (drop (offset3 i) assembled)) ∙ ap (take (length c)) after_b ∙ take-append_seam c (d ++ [])

  part4 : part_of_pair assembled 4 ≡ d
  unfolding part_of_pair
  part4 = (λ i. take (length4 i) (drop (offset4 i) assembled)) ∙ ap (take (length d)) after_c ∙ take-append_seam d []

  pub long : length assembled ≡ 20 + length a + length b + length c + length d
  unfolding assembled pairs_bytes joined
  long =
      rw (length-append a (b ++ (c ++ (d ++ []))), length-append b (c ++ (d ++ [])), length-append c (d ++ []), length-append d [])
      (omega arith)

  -- ---- 4: the chain
  module _ (pa : 0 < length a) (pb : 0 < length b) (pc : 0 < length c) (pd : 0 < length d) where
    pub four : refusal4 assembled ≡ false
    unfolding refusal4 chained all_follow bound number_at broken
    four =
        (λ i. broken (offset1 i) (length1 i) (offset2 i) (length2 i) (offset3 i) (length3 i) (offset4 i) (length4 i) (long i))
        ∙ unbroken (length a) (length b) (length c) (length d) pa pb pc pd

  -- ---- 5: the kinds
  module _ (ka : u8_at a 0 ≡ 1) (kb : u8_at b 0 ≡ 2) (kc : u8_at c 0 ≡ 3) (kd : u8_at d 0 ≡ 4) where
    k1 : kind_of_pair assembled 1 ≡ 1
    k1 = ap (λ (p : List ℕ). u8_at p 0) part1 ∙ ka

    k2 : kind_of_pair assembled 2 ≡ 2
    k2 = ap (λ (p : List ℕ). u8_at p 0) part2 ∙ kb

    k3 : kind_of_pair assembled 3 ≡ 3
    k3 = ap (λ (p : List ℕ). u8_at p 0) part3 ∙ kc

    k4 : kind_of_pair assembled 4 ≡ 4
    k4 = ap (λ (p : List ℕ). u8_at p 0) part4 ∙ kd

    pub five : refusal5 assembled ≡ false
    unfolding refusal5 once one_if
    five = simp (k1, k2, k3, k4)

    pub kind1 : part_of_kind assembled 1 ≡ a
    unfolding pair_of_kind
    kind1 = simp k1 part1

    pub kind2 : part_of_kind assembled 2 ≡ b
    unfolding pair_of_kind
    kind2 = simp (k1, k2) part2

    pub kind3 : part_of_kind assembled 3 ≡ c
    unfolding pair_of_kind
    kind3 = simp (k1, k2, k3) part3

    pub kind4 : part_of_kind assembled 4 ≡ d
    unfolding pair_of_kind
    kind4 = simp (k1, k2, k3) part4
