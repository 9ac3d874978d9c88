-- Laws of a table that two firms share (02, A6): which table a firm's number gives; that it is A4's of the same entries; that it does not depend on the
-- other firm's stretch.
use Prim.Native.Nat.{ℕ, ◌+◌, ◌-◌, ◌%◌, ◌<◌}
use native.Mathlib.Omega.{arith}
use mathlib.Core.Path.{◌≡◌, refl, sym, ap, ◌∙◌, subst}
use mathlib.Core.Bool.{Bool, true, false, not, ◌&&◌, ◌||◌, false≢true}
use mathlib.Core.List.{List, ◌++◌, append_assoc}
use borrow.Author.Tests.{eqb-true, eq-eqb, ne_eqb, le-ltb}
use lib.Dec.{eqb, ltb}
use lib.ListN.{length, take, drop, length-append}
use lib.Seq.{length-take-le, take-length, get_or-take, take-append_seam, drop-append_seam}
use Rattle.numbers.specs.Numbers.{u8_at, u16_at}
use Rattle.numbers.proofs.Bytes.{u16_back}
use Rattle.chain.specs.Chain.{number_at, continues, bound, all_follow, chained}
use Rattle.tables.specs.Entries.{entries_in}
use Rattle.tables.specs.Pairs.{all_whole, refusal14, stretch_of}
use Rattle.tables.specs.Table.{entries_table, turned_away, own_table, refusal16, shared_table, own_bytes, alone_bytes, SameFor}
use Rattle.tables.proofs.Stretches.{front_inside, part_follows, part_whole, stretch_length, ends}

-- ---- which table it is
module _ (firm : ℕ) (b : List ℕ) where
  pub other_firm : refusal16 firm ≡ true → shared_table firm b ≡ turned_away 16
  other_firm f = simp f

  module _ (f : refusal16 firm ≡ false) where
    pub other_layout : refusal14 2 b ≡ true → shared_table firm b ≡ turned_away 14
    other_layout h = simp (f, h)

    pub by_entries : refusal14 2 b ≡ false → shared_table firm b ≡ entries_table (entries_in (stretch_of (firm - 1) b))
    by_entries h = simp (f, h)

-- firm 1 has pair 0 and firm 2 pair 1
pair_of : (firm : ℕ) → refusal16 firm ≡ false → firm - 1 < 2
unfolding refusal16
pair_of firm f = go (eqb firm 1) refl (eqb firm 2) refl
  where
    go : (s : Bool) → eqb firm 1 ≡ s → (t : Bool) → eqb firm 2 ≡ t → firm - 1 < 2
    go true e t g = let i = eqb-true firm 1 e in omega arith
    go false e true g = let i = eqb-true firm 2 g in omega arith
    go false e false g = absurd (false≢true (sym (simp (e, g) at f)))

-- ---- A4's table of a stretch
-- 14 of one pair, over the table's length and the numbers in front
faulty : (all count offset bytes : ℕ) → Bool
faulty all count offset bytes =
    ltb all 6 || not (eqb count 1) || not (true && continues offset bytes 6 && eqb (offset + bytes) all) || not (true && eqb (bytes % 4) 0)

faultless : (n : ℕ) → 0 < n → n % 4 ≡ 0 → faulty (6 + n) 1 6 n ≡ false
unfolding faulty
faultless n some whole =
    simp (le-ltb (6 + n) 6 (omega arith), ne_eqb n 0 (λ e. omega arith), eq-eqb (6 + n) (6 + n) refl, eq-eqb (n % 4) 0 whole)

module _ (s : List ℕ) (some : 0 < length s) (whole : length s % 4 ≡ 0) where
  own_length : length (own_bytes s) ≡ 6 + length s
  own_length = omega arith

  laid : refusal14 1 (own_bytes s) ≡ false
  unfolding refusal14 number_at bound all_follow chained all_whole faulty
  laid =
      ap (faulty (length (own_bytes s)) 1 6) (u16_back (length s))
      ∙ ap (λ (n : ℕ). faulty n 1 6 (length s)) own_length
      ∙ faultless (length s) some whole

  is_stretch : stretch_of 0 (own_bytes s) ≡ s
  unfolding number_at
  is_stretch = ap (λ (n : ℕ). take n s) (u16_back (length s)) ∙ take-length s

  own_is : own_table (own_bytes s) ≡ entries_table (entries_in s)
  own_is = simp (laid, is_stretch)

-- 'that firm's stretch only, which loads and judges as A4's table of the same entries would'
pub alone : (firm : ℕ) (b : List ℕ) → refusal16 firm ≡ false → refusal14 2 b ≡ false → shared_table firm b ≡ own_table (alone_bytes firm b)
alone firm b f h =
    let k = firm - 1 in
    let l = pair_of firm f in
    let size = stretch_length 2 b h k l in
    let p = part_whole 2 b h k l in
    let q = (part_follows 2 b h k l).some in
    by_entries firm b f h ∙ sym (own_is (stretch_of k b) (rw size q) (rw size p))

-- ---- what the first ten bytes and the length say
module _ (a b : List ℕ) (front : take 10 a ≡ take 10 b) where
  byte_same : (i : ℕ) → i < 10 → u8_at a i ≡ u8_at b i
  byte_same i h = sym (get_or-take 10 a i 0 h) ∙ ap (λ (l : List ℕ). u8_at l i) front ∙ get_or-take 10 b i 0 h

  number_same : (i : ℕ) → i + 1 < 10 → u16_at a i ≡ u16_at b i
  number_same i h = let p = byte_same i (omega arith) in let q = byte_same (i + 1) h in cc

  layout_same : length a ≡ length b → refusal14 2 a ≡ refusal14 2 b
  unfolding refusal14 number_at bound all_follow chained all_whole
  layout_same size =
      let p = number_same 0 (omega arith) in
      let q = number_same 2 (omega arith) in
      let r = number_same 4 (omega arith) in
      let s = number_same 6 (omega arith) in
      let t = number_same 8 (omega arith) in
      simp (size, p, q, r, s, t)

-- the other firm's stretch does not count
pub same_for : (firm : ℕ) (a b : List ℕ) → SameFor firm a b → shared_table firm a ≡ shared_table firm b
same_for firm a b same = simp (layout_same a b same.front same.size, same.stretch)

-- ---- every content of the other firm's stretch, put in its place, makes such a table
three_length : (p q r : List ℕ) → length (p ++ q ++ r) ≡ length p + length q + length r
three_length p q r = length-append (p ++ q) r ∙ ap (λ (n : ℕ). n + length r) (length-append p q)

middle : (p q r : List ℕ) (m n : ℕ) → m ≡ length p → n ≡ length q → take n (drop m (p ++ q ++ r)) ≡ q
middle p q r m n e f =
    rw e
    (rw f (ap (λ (l : List ℕ). take (length q) (drop (length p) l)) (append_assoc p q r) ∙ ap (take (length q)) (drop-append_seam p (q ++ r)) ∙ take-append_seam q r))

last : (p q r : List ℕ) (m n : ℕ) → m ≡ length (p ++ q) → n ≡ length r → take n (drop m (p ++ q ++ r)) ≡ r
last p q r m n e f = rw e (rw f (ap (take (length r)) (drop-append_seam (p ++ q) r) ∙ take-length r))

module _ (b : List ℕ) (h : refusal14 2 b ≡ false) where
  front_length : length (take 10 b) ≡ 10
  front_length = length-take-le 10 b (front_inside 2 b h)

  starts : (q r : List ℕ) → take 10 b ≡ take 10 (take 10 b ++ q ++ r)
  starts q r =
      let p = take 10 b in
      sym
      (subst (λ (n : ℕ). take n (p ++ q ++ r) ≡ p) front_length (ap (take (length p)) (append_assoc p q r) ∙ take-append_seam p (q ++ r)))

  number_kept : (q r : List ℕ) (i : ℕ) → i + 1 < 10 → u16_at (take 10 b ++ q ++ r) i ≡ u16_at b i
  number_kept q r i l = sym (number_same b (take 10 b ++ q ++ r) (starts q r) i l)

  -- where the stretches start, how long they are, and where the second ends
  first_start : u16_at b 2 ≡ 10
  unfolding number_at bound
  first_start = (part_follows 2 b h 0 (omega arith)).start

  second_start : u16_at b 6 ≡ 10 + u16_at b 4
  unfolding number_at bound
  second_start = (part_follows 2 b h 1 (omega arith)).start ∙ ap (λ (n : ℕ). n + u16_at b 4) first_start

  end_is : u16_at b 6 + u16_at b 8 ≡ length b
  unfolding number_at bound
  end_is = ends 2 b h

  first_length : length (stretch_of 0 b) ≡ u16_at b 4
  unfolding number_at
  first_length = stretch_length 2 b h 0 (omega arith)

  second_length : length (stretch_of 1 b) ≡ u16_at b 8
  unfolding number_at
  second_length = stretch_length 2 b h 1 (omega arith)

  module _ (c : List ℕ) where
    pub other_of_1 : length c ≡ length (stretch_of 1 b) → SameFor 1 b (take 10 b ++ stretch_of 0 b ++ c)
    unfolding number_at
    other_of_1 e =
        let s = stretch_of 0 b in
        let p = three_length (take 10 b) s c in
        record {
          size = omega (arith, front_length, first_length, second_length, second_start, end_is);
          front = starts s c;
          stretch = sym
              (middle (take 10 b) s c _ _ (number_kept s c 2 (omega arith) ∙ first_start ∙ sym front_length)
              (number_kept s c 4 (omega arith) ∙ sym first_length));
        }

    pub other_of_2 : length c ≡ length (stretch_of 0 b) → SameFor 2 b (take 10 b ++ c ++ stretch_of 1 b)
    unfolding number_at
    other_of_2 e =
        let s = stretch_of 1 b in
        let p = three_length (take 10 b) c s in
        let q = length-append (take 10 b) c in
        let at = number_kept c s 6 (omega arith) in
        record {
          size = omega (arith, front_length, first_length, second_length, second_start, end_is);
          front = starts c s;
          stretch = sym
              (last (take 10 b) c s _ _ (omega (arith, front_length, first_length, second_start))
              (number_kept c s 8 (omega arith) ∙ sym second_length));
        }
