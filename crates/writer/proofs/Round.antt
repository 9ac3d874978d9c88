-- What the writer promises, over the definitions, by every table that loads: it writes what passes its tests; what it wrote passes 1 to 9 and reads back; a record
-- read and written again reads alike; the buffer's old bytes play no part.
use Prim.Native.Nat.{ℕ, ◌+◌, ◌*◌, ◌≤◌}
use mathlib.Core.Path.{◌≡◌, refl, sym, ap, ◌∙◌}
use mathlib.Core.List.{List, [], ◌∷◌}
use mathlib.Core.Bool.{Bool, true, false, not, ◌&&◌, false≢true, and-eq-true_iff}
use native.Mathlib.Omega.{arith}
use borrow.Author.Tests.{le-ltb, le-leb, eq-eqb, eqb-true, not-false}
use lib.Dec.{ltb, eqb}
use lib.ListN.{length, get_or, take, drop}
use lib.Seq.{take-append_seam, length-take-le, get_or-take}
use lib.IntN.{ℤ, pos, negsuc, nat_abs}
use Rattle.codes.specs.Tables.{is_version}
use Rattle.joint.specs.declared.Values.{Values}
use Rattle.joint.specs.Layout.{version, part_of_kind, position_field, column, positions_in, bytes_of, values_of}
use Rattle.joint.specs.Refusal.{refusal2, refusal4, refusal5, refusal6, empty_outlines, no_force, fields_within}
use Rattle.tables.specs.Tests.{test, first_holding, numbered}
use Rattle.tables.specs.Table.{Table, Loaded, Right}
use Rattle.joint.specs.Refusal.{record_tests, refusal_number, reading_of}
use Rattle.joint.proofs.Faults.{unrefused}
use Rattle.joint.proofs.Holding.{no_number, first_zero, both_zero}
use Rattle.joint.proofs.Accepted.{fields_hold}
use Rattle.joint.proofs.Columns.{column_length, column_same}
use Rattle.writer.specs.declared.MemberFields.{MemberFields}
use Rattle.writer.specs.declared.Fields.{Fields}
use Rattle.writer.specs.Write.{member_from, placed, values_from, is_unsigned, version_unknown, member_unsigned, fields_unsigned, lists_alike}
use Rattle.writer.specs.Write.{handed_tests, own_tests, writer_number, written_of, buffer_after, record_made}
use Rattle.writer.specs.Read.{member_to, fields_of, marks_of, normal_member, normal, x_of, y_of, ReadsBack}
use Rattle.put.proofs.Lengths.{bytes_length}
use Rattle.writer.proofs.Back.{cleaned, column_at, clean_column, values_back, passes}
use Rattle.writer.proofs.Fitting.{lists_within}
use Rattle.writer.proofs.Size.{size_is}

-- ---- what the tests say where none holds
record Clear (t : Table) (f : Fields) (x y : List ℤ) : Type 0 where
  loads : Loaded t
  version : version_unknown f ≡ false
  unsigned : fields_unsigned f ≡ true
  alike : length x ≡ length y
  within : fields_within t (values_from f x y) ≡ true
  outlines : empty_outlines (values_from f x y).members ≡ false
  force : no_force (values_from f x y).loads ≡ false

-- ---- a number without a sign
unsigned_back : (z : ℤ) → is_unsigned z ≡ true → pos (nat_abs z) ≡ z
unsigned_back (pos n) h = refl
unsigned_back (negsuc n) h = absurd (false≢true h)

member_back : (m : MemberFields) → member_unsigned m ≡ true → member_to (member_from m) ≡ normal_member m
unfolding member_unsigned
member_back m h =
    let p = simp and-eq-true_iff at h in
    λ i. record {
      class = unsigned_back m.class p.0.0 i;
      grain = unsigned_back m.grain p.0.1 i;
      gx = pos 0;
      gy = pos 0;
      thickness = unsigned_back m.thickness p.1 i;
      x0 = m.x0;
      y0 = m.y0;
      x1 = m.x1;
      y1 = m.y1;
    }

fields_back : (f : Fields) (x y : List ℤ) → is_unsigned f.version ≡ true → fields_unsigned f ≡ true → fields_of (values_from f x y) ≡ normal f
unfolding fields_unsigned values_from fields_of normal
fields_back f x y u h =
    let p = simp and-eq-true_iff at h in
    λ i. record {
      version = unsigned_back f.version u i;
      planes = unsigned_back f.planes p.0.0.0.0.0.0 i;
      member1 = member_back f.member1 p.0.0.0.0.0.1 i;
      member2 = member_back f.member2 p.0.0.0.0.1 i;
      diameter = unsigned_back f.diameter p.0.0.0.1 i;
      steel = unsigned_back f.steel p.0.0.1 i;
      plate = pos 0;
      service_class = unsigned_back f.service_class p.0.1 i;
      duration = unsigned_back f.duration p.1 i;
      fx = f.fx;
      fy = f.fy;
    }

-- ---- places past the last dowel are 0 already
clean_from : (f : Fields) (x y : List ℤ) → length x ≡ length y → length x ≤ 64 → cleaned (values_from f x y) ≡ values_from f x y
unfolding values_from
clean_from f x y e l =
    let number : ℕ → ℤ = λ k. get_or y k (pos 0) in
    let ys : column (λ k. get_or (placed y) k (pos 0)) (length x) ≡ placed y =
    ap (column (λ k. get_or (placed y) k (pos 0))) e ∙ clean_column number (length y) (rw (← e) l) in
    λ i. record {
      version = (values_from f x y).version;
      members = (values_from f x y).members;
      dowel = (values_from f x y).dowel;
      positions = record { n = length x; x = clean_column (λ k. get_or x k (pos 0)) (length x) l i; y = ys i };
      loads = (values_from f x y).loads;
    }

module _ (t : Table) (right : Right t) (f : Fields) (x y : List ℤ) where
  abbrev v : Values
  v = values_from f x y

  abbrev size : ℕ
  size = length (bytes_of v)

  clear : (room : ℕ) → writer_number t f x y room ≡ 0 → Clear t f x y
  unfolding writer_number own_tests numbered
  clear room h =
      let z = both_zero t.tests (own_tests t f x y room) right.no_zero h in
      let n = no_number (own_tests t f x y room) refl z.1 in
      let p = (and-eq-true_iff (fields_unsigned f) (lists_alike x y)).0 (not-false (fields_unsigned f && lists_alike x y) (n.none 1)) in
      record {
        loads = z.0;
        version = n.none 0;
        unsigned = p.0;
        alike = eqb-true (length x) (length y) p.1;
        within = not-false (fields_within t v) (n.none 2);
        outlines = n.none 3;
        force = n.none 4;
      }

  size_is_n : size ≡ 78 + 8 * length x
  unfolding values_from
  size_is_n = bytes_length v

  nothing : (room : ℕ) → Loaded t → first_holding (handed_tests t f x y) ≡ 0 → 78 + 8 * length x ≤ room → writer_number t f x y room ≡ 0
  unfolding writer_number own_tests numbered first_holding
  nothing room loads h l =
      first_zero t.tests (own_tests t f x y room) right.no_zero loads
      ∙ first_zero (handed_tests t f x y) (test 13 (ltb room size) ∷ []) refl h ∙ simp (le-ltb room size (rw size_is_n l))

  -- ---- values that pass 2, 7, 8 and 9 are written into a buffer of 78 + 8N bytes or more
  pub writes : (room : ℕ) → Loaded t → first_holding (handed_tests t f x y) ≡ 0 → 78 + 8 * length x ≤ room
      → written_of t f x y room ≡ record { number = 0; length = 78 + 8 * length x }
  unfolding written_of
  writes room loads h l = simp (nothing room loads h l, size_is_n)

  -- ---- what was written reads back
  module _ (buffer : List ℕ) (h : writer_number t f x y (length buffer) ≡ 0) where
    made_is : record_made t f x y buffer ≡ bytes_of v
    unfolding written_of buffer_after
    made_is = simp h (take-append_seam (bytes_of v) (drop size buffer))

    known : (is_unsigned f.version ≡ true) × (is_version (nat_abs f.version) ≡ true)
    unfolding version_unknown
    known =
        (and-eq-true_iff (is_unsigned f.version) (is_version (nat_abs f.version))).0
        (not-false (is_unsigned f.version && is_version (nat_abs f.version)) (clear (length buffer) h).version)

    values_are : values_of (record_made t f x y buffer) ≡ v
    values_are =
        let c = clear (length buffer) h in
        ap values_of made_is ∙ values_back t v (clean_from f x y c.alike (lists_within t (right.sound c.loads) f x y c.unsigned c.within)) c.within

    pub reads_back : ReadsBack t (record_made t f x y buffer) f x y
    unfolding values_from marks_of
    reads_back =
        let c = clear (length buffer) h in
        record {
          passes =
              ap (refusal_number t) made_is
              ∙ passes t v (clean_from f x y c.alike (lists_within t (right.sound c.loads) f x y c.unsigned c.within)) c.within right c.loads
              known.1 c.outlines c.force;
          fields = ap fields_of values_are ∙ fields_back f x y known.0 c.unsigned;
          number = ap (λ (w : Values). w.positions.n) values_are;
          x_places = ap (λ (w : Values). w.positions.x) values_are;
          y_places = ap (λ (w : Values). w.positions.y) values_are;
          marks = refl;
        }

  -- ---- two buffers of one length get the same record
  pub buffer_blind : (b c : List ℕ) → length b ≡ length c
      → (written_of t f x y (length b) ≡ written_of t f x y (length c)) × (record_made t f x y b ≡ record_made t f x y c)
  unfolding written_of buffer_after
  buffer_blind b c e = (ap (written_of t f x y) e, of (eqb (writer_number t f x y (length b)) 0) refl)
    where
      of : (d : Bool) → eqb (writer_number t f x y (length b)) 0 ≡ d → record_made t f x y b ≡ record_made t f x y c
      of true h =
          let z = eqb-true _ 0 h in
          made_is b z ∙ sym (made_is c (ap (writer_number t f x y) (sym e) ∙ z))
      of false h = let g : eqb (writer_number t f x y (length c)) 0 ≡ false = ap (λ (n : ℕ). eqb (writer_number t f x y n) 0) (sym e) ∙ h in simp (h, g)

-- ---- a record that passes 1 to 9, read and written again
module _ (t : Table) (right : Right t) (s : List ℕ) (h : refusal_number t s ≡ 0) where
  abbrev w : Values
  w = values_of s

  record Read : Type 0 where
    version : is_version w.version ≡ true
    four : refusal4 s ≡ false
    five : refusal5 s ≡ false
    six : refusal6 s ≡ false
    within : fields_within t w ≡ true
    outlines : empty_outlines w.members ≡ false
    force : no_force w.loads ≡ false

  read : Read
  unfolding numbered refusal2 values_of
  read =
      let n = no_number (record_tests t s) refl (unrefused t right s h).1 in
      record {
        version = not-false (is_version w.version) (n.none 1);
        four = n.none 3;
        five = n.none 4;
        six = n.none 5;
        within = not-false (fields_within t w) (n.none 6);
        outlines = n.none 7;
        force = n.none 8;
      }

  few : w.positions.n ≤ 64
  few = (fields_hold t w (ap not read.within)).dowels_high

  as_long : length s ≡ 78 + 8 * w.positions.n
  unfolding values_of positions_in
  as_long = size_is s read.four read.five read.six

  -- the first n of a column, put into places again
  again : (f : ℕ → ℤ) (n : ℕ) → n ≤ 64 → (length (take n (column f n)) ≡ n) × (placed (take n (column f n)) ≡ column f n)
  again f n l =
      let e : length (take n (column f n)) ≡ n = length-take-le n (column f n) (rw (column_length f n) l) in (
        e,
        ap (column (λ k. get_or (take n (column f n)) k (pos 0))) e
            ∙ column_same _ f n (λ k g. get_or-take n (column f n) k (pos 0) g ∙ column_at f n k g l),
      )

  abbrev part : List ℕ
  part = part_of_kind s 3

  values_again : values_from (fields_of w) (x_of w) (y_of w) ≡ w
  unfolding values_from fields_of values_of positions_in
  values_again =
      let x = again (position_field part 0) w.positions.n few in
      let y = again (position_field part 1) w.positions.n few in
      λ i. record {
        version = w.version;
        members = w.members;
        dowel = w.dowel;
        positions = record { n = x.0 i; x = x.1 i; y = y.1 i };
        loads = w.loads;
      }

  lengths : (length (x_of w) ≡ w.positions.n) × (length (y_of w) ≡ w.positions.n)
  unfolding values_of positions_in
  lengths = ((again (position_field part 0) w.positions.n few).0, (again (position_field part 1) w.positions.n few).0)

  no_sign : (n : ℕ) → is_unsigned (pos n) ≡ true
  no_sign n = le-leb 0 n (omega arith)

  handed : first_holding (handed_tests t (fields_of w) (x_of w) (y_of w)) ≡ 0
  unfolding first_holding version_unknown fields_unsigned member_unsigned fields_of
  handed =
      simp (
        no_sign,
        read.version,
        eq-eqb (length (x_of w)) (length (y_of w)) (lengths.0 ∙ sym lengths.1),
        values_again,
        read.within,
        read.outlines,
        read.force,
      )

  module _ (buffer : List ℕ) (l : length s ≤ length buffer) where
    abbrev made_again : List ℕ
    made_again = record_made t (fields_of w) (x_of w) (y_of w) buffer

    taken : writer_number t (fields_of w) (x_of w) (y_of w) (length buffer) ≡ 0
    taken = nothing t right (fields_of w) (x_of w) (y_of w) (length buffer) (unrefused t right s h).0 handed (rw (lengths.0, ← as_long) l)

    values_kept : values_of made_again ≡ w
    values_kept = values_are t right (fields_of w) (x_of w) (y_of w) buffer taken ∙ values_again

    pub written_again :
        (writer_number t (fields_of w) (x_of w) (y_of w) (length buffer) ≡ 0)
        × (reading_of t (record_made t (fields_of w) (x_of w) (y_of w) buffer) ≡ reading_of t s)
    unfolding reading_of
    written_again =
        let p = (reads_back t right (fields_of w) (x_of w) (y_of w) buffer taken).passes in (taken, simp (p, h, values_kept))

    -- A7: 'a record read and written again keeps its version'
    pub version_kept : version (record_made t (fields_of w) (x_of w) (y_of w) buffer) ≡ version s
    unfolding values_of
    version_kept = ap (λ (v : Values). v.version) values_kept
