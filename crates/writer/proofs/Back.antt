-- What is written reads back, part by part and then whole.
use Prim.Native.Nat.{ℕ, zero, suc, ◌+◌, ◌*◌, ◌≤◌, ◌<◌}
use mathlib.Core.Path.{◌≡◌, refl, sym, ap, ◌∙◌}
use mathlib.Core.List.{List, [], ◌∷◌, ◌++◌, append_assoc, append-nil}
use mathlib.Core.Bool.{true, false, not, and-eq-true_iff}
use native.Mathlib.Omega.{arith}
use native.Mathlib.Decide.{ℕ_discrete, dec_lt}
use borrow.Author.Tests.{le-ltb, le-leb, eq-eqb}
use lib.Dec.{eqb}
use lib.ListN.{length, get_or, set, drop}
use lib.Seq.{get_or-set_same, get_or-set_other, get_or-drop, drop-drop, drop-append-le, drop_at}
use lib.Signed.{mag}
use lib.IntN.{ℤ, pos}
use Rattle.numbers.specs.Numbers.{u8_at, i32_at, twos_complement, coordinate}
use Rattle.numbers.specs.Fields.{field_bytes}
use Rattle.numbers.proofs.Bytes.{u16_back, i32_back, coordinate_fits, force_fits}
use Rattle.codes.specs.Tables.{is_version}
use Rattle.joint.specs.declared.Outline.{Outline}
use Rattle.joint.specs.declared.Member.{Member}
use Rattle.joint.specs.declared.Members.{Members}
use Rattle.joint.specs.declared.Dowel.{Dowel}
use Rattle.joint.specs.declared.Positions.{Positions}
use Rattle.joint.specs.declared.Loads.{Loads}
use Rattle.joint.specs.declared.Values.{Values}
use Rattle.joint.specs.Layout.{version, pair_count, part_of_kind, member_at, members_in, dowel_in, position_field, position_fields}
use Rattle.joint.specs.Layout.{column, positions_in, loads_in, values_of}
use Rattle.joint.specs.Layout.{member_bytes, members_bytes, dowel_bytes, columns_bytes, positions_bytes, loads_bytes, bytes_of}
use Rattle.joint.specs.Refusal.{refusal1, refusal2, refusal3, refusal4, refusal5, positions_length, refusal6}
use Rattle.joint.specs.Refusal.{empty_outlines, no_force, refusal_number}
use Rattle.tables.specs.Tests.{first_holding}
use Rattle.tables.specs.Table.{Table, Loaded, Right}
use Rattle.joint.proofs.Faults.{number_of_record}
use Rattle.joint.specs.Refusal.{outline_within, member_within, members_within, coordinates, positions_within, loads_within, fields_within}
use Rattle.joint.proofs.Columns.{column_length, column_same}
use Rattle.put.proofs.Lengths.{members_length, dowel_length, columns_length, positions_length_lem, loads_length}
use Rattle.writer.proofs.Made.{assembled, version_is, count_is, kind1, kind2, kind3, kind4, four, five, long}

-- ---- members
record Small (o : Outline) : Type 0 where
  x0 : mag o.x0 < 2147483648
  y0 : mag o.y0 < 2147483648
  x1 : mag o.x1 < 2147483648
  y1 : mag o.y1 < 2147483648

small : (t : Table) (m : Member) → member_within t m ≡ true → Small m.outline
unfolding member_within outline_within
small t m h =
    let p = simp and-eq-true_iff at h in
    record {
      x0 = coordinate_fits m.outline.x0 p.1.0.0.0;
      y0 = coordinate_fits m.outline.y0 p.1.0.0.1;
      x1 = coordinate_fits m.outline.x1 p.1.0.1;
      y1 = coordinate_fits m.outline.y1 p.1.1;
    }

members_back : (t : Table) (m : Members) → members_within t m ≡ true → members_in (members_bytes m) ≡ m
unfolding members_in member_at members_bytes member_bytes i32_at members_within
members_back t m h =
    let p = simp and-eq-true_iff at h in
    let a = small t m.member1 p.0.1 in
    let b = small t m.member2 p.1 in
    λ i. record {
      planes = m.planes;
      member1 =
          record {
            class = m.member1.class;
            grain = m.member1.grain;
            thickness = u16_back m.member1.thickness i;
            outline =
                record {
                  x0 = i32_back m.member1.outline.x0 a.x0 i;
                  y0 = i32_back m.member1.outline.y0 a.y0 i;
                  x1 = i32_back m.member1.outline.x1 a.x1 i;
                  y1 = i32_back m.member1.outline.y1 a.y1 i;
                };
          };
      member2 =
          record {
            class = m.member2.class;
            grain = m.member2.grain;
            thickness = u16_back m.member2.thickness i;
            outline =
                record {
                  x0 = i32_back m.member2.outline.x0 b.x0 i;
                  y0 = i32_back m.member2.outline.y0 b.y0 i;
                  x1 = i32_back m.member2.outline.x1 b.x1 i;
                  y1 = i32_back m.member2.outline.y1 b.y1 i;
                };
          };
    }

-- ---- dowel and loads
dowel_back : (w : Dowel) → dowel_in (dowel_bytes w) ≡ w
unfolding dowel_in dowel_bytes
dowel_back w = refl

loads_back : (l : Loads) → loads_within l ≡ true → loads_in (loads_bytes l) ≡ l
unfolding loads_in loads_bytes i32_at loads_within
loads_back l h =
    let p = simp and-eq-true_iff at h in
    λ i. record {
      service_class = l.service_class;
      duration = l.duration;
      fx = i32_back l.fx (force_fits l.fx p.0.1) i;
      fy = i32_back l.fy (force_fits l.fy p.1) i;
    }

-- ---- positions
i32_drop : (l : List ℕ) (k j : ℕ) → i32_at l (k + j) ≡ i32_at (drop k l) j
unfolding i32_at
i32_drop l k j =
    let at : (i m : ℕ) → m ≡ k + i → get_or l m 0 ≡ get_or (drop k l) i 0 =
    λ i m e. ap (λ (z : ℕ). get_or l z 0) e ∙ sym (get_or-drop k l i 0) in
    λ i.
    twos_complement
    (at j (k + j) refl i + at (j + 1) (k + j + 1) (omega arith) i * 256
    + (at (j + 2) (k + j + 2) (omega arith) i + at (j + 2 + 1) (k + j + 2 + 1) (omega arith) i * 256) * 65536)

-- x and y of dowel i, and what follows
pair : List ℤ → List ℤ → ℕ → List ℕ
pair x y i = field_bytes position_fields (get_or x i (pos 0) ∷ get_or y i (pos 0) ∷ [])

before : {i n : ℕ} → i < suc n → (i ≡ n → ⊥) → i < n
before {i} {n} h e = of (dec_lt i n)
  where
    of : Dec (i < n) → i < n
    of (yes l) = l
    of (no l) = absurd (e (omega arith))

columns_from : (x y : List ℤ) (n i : ℕ) → i < n → (rest : List ℕ) × (drop (8 * i) (columns_bytes x y n) ≡ pair x y i ++ rest)
unfolding columns_bytes pair
columns_from x y zero i h = absurd (omega arith)
columns_from x y (suc n) i h = of (ℕ_discrete i n) (columns_from x y n i)
  where
    of : Dec (i ≡ n) → (i < n → (rest : List ℕ) × (drop (8 * i) (columns_bytes x y n) ≡ pair x y i ++ rest))
        → (rest : List ℕ) × (drop (8 * i) (columns_bytes x y n ++ pair x y n) ≡ pair x y i ++ rest)
    of (yes e) r = (
      [],
      ap (λ (k : ℕ). drop (8 * k) (columns_bytes x y n ++ pair x y n)) e
          ∙ drop_at (columns_bytes x y n) (pair x y n) (8 * n) (columns_length x y n)
          ∙ ap (pair x y) (sym e)
          ∙ sym (append-nil (pair x y i)),
    )
    of (no e) r =
        let q = r (before h e) in (
          q.0 ++ pair x y n,
          drop-append-le (8 * i) (columns_bytes x y n) (pair x y n) (omega (arith, columns_length x y n, h))
              ∙ ap (λ (l : List ℕ). l ++ pair x y n) q.1
              ∙ append_assoc (pair x y i) q.0 (pair x y n),
        )

coordinates_at : (l : List ℤ) (n i : ℕ) → coordinates l n ≡ true → i < n → coordinate (get_or l i (pos 0)) ≡ true
unfolding coordinates
coordinates_at l zero i h g = absurd (omega arith)
coordinates_at l (suc n) i h g =
    let p = (and-eq-true_iff (coordinates l n) (coordinate (get_or l n (pos 0)))).0 h in
    of (ℕ_discrete i n) p.1 (coordinates_at l n i p.0)
  where
    of : Dec (i ≡ n) → coordinate (get_or l n (pos 0)) ≡ true → (i < n → coordinate (get_or l i (pos 0)) ≡ true)
        → coordinate (get_or l i (pos 0)) ≡ true
    of (yes e) here later = ap (λ (k : ℕ). coordinate (get_or l k (pos 0))) e ∙ here
    of (no e) here later = later (before g e)

-- the same numbers, and 0 past the last dowel
abbrev pub clean : Positions → Positions
clean p =
    record {
      n = p.n;
      x = column (λ k. get_or p.x k (pos 0)) p.n;
      y = column (λ k. get_or p.y k (pos 0)) p.n;
    }

module _ (p : Positions) (h : positions_within p ≡ true) where
  abbrev part : List ℕ
  part = positions_bytes p

  from : (i : ℕ) → i < p.n → (rest : List ℕ) × (drop (2 + 8 * i) part ≡ pair p.x p.y i ++ rest)
  unfolding positions_bytes
  from i g =
      let q = columns_from p.x p.y p.n i g in (q.0, sym (drop-drop (8 * i) 2 part) ∙ q.1)

  within : (i : ℕ) → i < p.n → (mag (get_or p.x i (pos 0)) < 2147483648) × (mag (get_or p.y i (pos 0)) < 2147483648)
  unfolding positions_within
  within i g =
      let q = simp and-eq-true_iff at h in
      (coordinate_fits _ (coordinates_at p.x p.n i q.0.1 g), coordinate_fits _ (coordinates_at p.y p.n i q.1 g))

  x_at : (i : ℕ) → i < p.n → position_field part 0 i ≡ get_or p.x i (pos 0)
  unfolding pair i32_at
  x_at i g =
      let q = from i g in
      i32_drop part (2 + 8 * i) 0 ∙ ap (λ (l : List ℕ). i32_at l 0) q.1 ∙ i32_back (get_or p.x i (pos 0)) (within i g).0

  y_at : (i : ℕ) → i < p.n → position_field part 1 i ≡ get_or p.y i (pos 0)
  unfolding pair i32_at
  y_at i g =
      let q = from i g in
      i32_drop part (2 + 8 * i) 4 ∙ ap (λ (l : List ℕ). i32_at l 4) q.1 ∙ i32_back (get_or p.y i (pos 0)) (within i g).1

  positions_back : positions_in part ≡ clean p
  unfolding positions_in positions_bytes
  positions_back = λ i. record { n = p.n; x = column_same _ _ p.n x_at i; y = column_same _ _ p.n y_at i }

-- ---- all values
abbrev pub cleaned : Values → Values
cleaned v =
    record {
      version = v.version;
      members = v.members;
      dowel = v.dowel;
      positions = clean v.positions;
      loads = v.loads;
    }

-- ---- columns that are as they should be
pub column_at : (f : ℕ → ℤ) (n k : ℕ) → k < n → n ≤ 64 → get_or (column f n) k (pos 0) ≡ f k
unfolding column
column_at f zero k h g = absurd (omega arith)
column_at f (suc n) k h g = of (ℕ_discrete k n) (column_at f n k)
  where
    of : Dec (k ≡ n) → (k < n → n ≤ 64 → get_or (column f n) k (pos 0) ≡ f k) → get_or (set (column f n) n (f n)) k (pos 0) ≡ f k
    of (yes e) r =
        ap (λ (j : ℕ). get_or (set (column f n) n (f n)) j (pos 0)) e
        ∙ get_or-set_same (column f n) n (f n) (pos 0) (rw (column_length f n) (omega arith))
        ∙ ap f (sym e)
    of (no e) r = get_or-set_other (column f n) n k (f n) (pos 0) e ∙ r (before h e) (omega arith)

pub clean_column : (f : ℕ → ℤ) (n : ℕ) → n ≤ 64 → column (λ k. get_or (column f n) k (pos 0)) n ≡ column f n
clean_column f n g = column_same _ f n (λ k h. column_at f n k h g)

module _ (t : Table) (v : Values) (clear : cleaned v ≡ v) (h : fields_within t v ≡ true) where
  abbrev bytes : List ℕ
  bytes = bytes_of v

  record Within : Type 0 where
    members : members_within t v.members ≡ true
    positions : positions_within v.positions ≡ true
    loads : loads_within v.loads ≡ true

  inside : Within
  unfolding fields_within
  inside = let p = simp and-eq-true_iff at h in record { members = p.0.0.0; positions = p.0.1; loads = p.1 }

  abbrev m : List ℕ
  m = members_bytes v.members

  abbrev d : List ℕ
  d = dowel_bytes v.dowel

  abbrev p : List ℕ
  p = positions_bytes v.positions

  abbrev l : List ℕ
  l = loads_bytes v.loads

  is_made : bytes ≡ assembled v.version m d p l
  unfolding bytes_of assembled
  is_made = refl

  km : u8_at m 0 ≡ 1
  unfolding members_bytes
  km = refl

  kd : u8_at d 0 ≡ 2
  unfolding dowel_bytes
  kd = refl

  kp : u8_at p 0 ≡ 3
  unfolding positions_bytes
  kp = refl

  kl : u8_at l 0 ≡ 4
  unfolding loads_bytes
  kl = refl

  kind_1 : part_of_kind bytes 1 ≡ m
  kind_1 = ap (λ (z : List ℕ). part_of_kind z 1) is_made ∙ kind1 v.version m d p l km kd kp kl

  kind_2 : part_of_kind bytes 2 ≡ d
  kind_2 = ap (λ (z : List ℕ). part_of_kind z 2) is_made ∙ kind2 v.version m d p l km kd kp kl

  kind_3 : part_of_kind bytes 3 ≡ p
  kind_3 = ap (λ (z : List ℕ). part_of_kind z 3) is_made ∙ kind3 v.version m d p l km kd kp kl

  kind_4 : part_of_kind bytes 4 ≡ l
  kind_4 = ap (λ (z : List ℕ). part_of_kind z 4) is_made ∙ kind4 v.version m d p l km kd kp kl

  version_back : version bytes ≡ v.version
  version_back = ap version is_made ∙ version_is v.version m d p l

  pub values_back : values_of bytes ≡ v
  unfolding values_of
  values_back =
      (λ i.
      record {
        version = version_back i;
        members = (ap members_in kind_1 ∙ members_back t v.members inside.members) i;
        dowel = (ap dowel_in kind_2 ∙ dowel_back v.dowel) i;
        positions = (ap positions_in kind_3 ∙ positions_back v.positions inside.positions) i;
        loads = (ap loads_in kind_4 ∙ loads_back v.loads inside.loads) i;
      })
      ∙ clear

  -- ---- it passes 1 to 9
  one : refusal1 bytes ≡ false
  unfolding refusal1
  one = le-ltb (length bytes) 20 (rw is_made (rw (long v.version m d p l) (omega arith)))

  two : is_version v.version ≡ true → refusal2 bytes ≡ false
  unfolding refusal2
  two k = ap (λ (n : ℕ). not (is_version n)) version_back ∙ ap not k

  three : refusal3 bytes ≡ false
  unfolding refusal3
  three = ap (λ (z : List ℕ). not (eqb (pair_count z) 4)) is_made ∙ ap (λ (n : ℕ). not (eqb n 4)) (count_is v.version m d p l)

  four' : refusal4 bytes ≡ false
  four' =
      ap refusal4 is_made
      ∙ four v.version m d p l
      (omega (arith, members_length v.members))
      (omega (arith, dowel_length v.dowel))
      (omega (arith, positions_length_lem v.positions))
      (omega (arith, loads_length v.loads))

  five' : refusal5 bytes ≡ false
  five' = ap refusal5 is_made ∙ five v.version m d p l km kd kp kl

  number_at : u8_at p 1 ≡ v.positions.n
  unfolding positions_bytes
  number_at = refl

  six : refusal6 bytes ≡ false
  unfolding refusal6 positions_length
  six =
      simp (
        kind_1,
        kind_2,
        kind_3,
        kind_4,
        members_length v.members,
        dowel_length v.dowel,
        positions_length_lem v.positions,
        loads_length v.loads,
        number_at,
        le-leb 2 (2 + 8 * v.positions.n) (omega arith),
        eq-eqb (2 + 8 * v.positions.n) (2 + 8 * v.positions.n) refl,
      )

  pub passes : Right t → Loaded t → is_version v.version ≡ true → empty_outlines v.members ≡ false → no_force v.loads ≡ false
      → refusal_number t bytes ≡ 0
  unfolding first_holding
  passes right loads k e f = number_of_record t right loads bytes ∙ simp (one, two k, three, four', five', six, values_back, h, e, f)
