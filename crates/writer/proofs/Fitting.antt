-- Numbers that fit their field's bytes: what a test passed says, and that what is within its limits fits.
use Prim.Native.Nat.{◌≤◌}
use mathlib.Core.List.{List}
use lib.ListN.{length}
use mathlib.Core.Path.{◌≡◌, ap}
use mathlib.Core.Bool.{true, not, false≢true, and-eq-true_iff}
use native.Mathlib.Omega.{arith}
use borrow.Author.Tests.{leb-true, le-leb}
use lib.IntN.{ℤ, pos, negsuc, nat_abs}
use Rattle.tables.specs.Classes.{Sound}
use Rattle.tables.specs.Table.{Table}
use Rattle.joint.specs.Refusal.{member_within, members_within, fields_within}
use Rattle.joint.specs.Returned.{FieldsHold}
use Rattle.joint.proofs.Accepted.{fields_hold}
use Rattle.writer.specs.declared.MemberFields.{MemberFields}
use Rattle.writer.specs.declared.Fields.{Fields}
use Rattle.writer.specs.Write.{member_from, values_from, is_unsigned, member_unsigned, fields_unsigned}
use Rattle.writer.specs.Working.{fits_byte, fits_two_bytes, member_fits, fields_fit}

-- ---- what has no sign and is within its limits fits
byte_within : (z : ℤ) → is_unsigned z ≡ true → nat_abs z ≤ 255 → fits_byte z ≡ true
byte_within (pos n) u l = simp (u, le-leb n 255 l)
byte_within (negsuc n) u l = absurd (false≢true u)

two_bytes_within : (z : ℤ) → is_unsigned z ≡ true → nat_abs z ≤ 65535 → fits_two_bytes z ≡ true
two_bytes_within (pos n) u l = simp (u, le-leb n 65535 l)
two_bytes_within (negsuc n) u l = absurd (false≢true u)

member_within_lem : (t : Table) → Sound t.classes → (m : MemberFields) → member_unsigned m ≡ true → member_within t (member_from m) ≡ true
    → member_fits m ≡ true
unfolding member_unsigned member_within member_fits
member_within_lem t s m u w =
    let p = simp and-eq-true_iff at u in
    let q = simp and-eq-true_iff at w in
    let k = s.byte (nat_abs m.class) q.0.0.0 in
    let g = leb-true (nat_abs m.grain) 1 q.0.0.1.1 in
    let t = leb-true (nat_abs m.thickness) 4000 q.0.1.1 in
    simp (
      byte_within m.class p.0.0 k,
      byte_within m.grain p.0.1 (omega (arith, g)),
      two_bytes_within m.thickness p.1 (omega (arith, t)),
    )

module _ (t : Table) (s : Sound t.classes) (f : Fields) (x y : List ℤ) (u : fields_unsigned f ≡ true) (w : fields_within t (values_from f x y) ≡ true) where
  holds : FieldsHold t (values_from f x y)
  holds = fields_hold t (values_from f x y) (ap not w)

  pub fields_within_lem : fields_fit f ≡ true
  unfolding fields_unsigned values_from fields_within members_within fields_fit
  fields_within_lem =
      let p = simp and-eq-true_iff at u in
      let q = simp and-eq-true_iff at w in
      simp (
        byte_within f.planes p.0.0.0.0.0.0 (omega (arith, holds.planes_high)),
        member_within_lem t s f.member1 p.0.0.0.0.0.1 q.0.0.0.0.1,
        member_within_lem t s f.member2 p.0.0.0.0.1 q.0.0.0.1,
        byte_within f.diameter p.0.0.0.1 (omega (arith, holds.diameter_high)),
        byte_within f.steel p.0.0.1 (omega (arith, holds.steel_high)),
        byte_within f.service_class p.0.1 (omega (arith, holds.service_high)),
        byte_within f.duration p.1 (omega (arith, holds.duration_high)),
      )

  pub lists_within : length x ≤ 64
  unfolding values_from
  lists_within = holds.dowels_high

-- ---- what fits has no sign
member_unsigned_lem : (m : MemberFields) → member_fits m ≡ true → member_unsigned m ≡ true
unfolding member_fits member_unsigned
member_unsigned_lem m h =
    let p = simp and-eq-true_iff at h in
    simp (p.0.0.0, p.0.1.0, p.1.0)

pub fields_unsigned_lem : (f : Fields) → fields_fit f ≡ true → fields_unsigned f ≡ true
unfolding fields_fit fields_unsigned
fields_unsigned_lem f h =
    let p = simp and-eq-true_iff at h in
    simp (
      p.0.0.0.0.0.0.0,
      member_unsigned_lem f.member1 p.0.0.0.0.0.1,
      member_unsigned_lem f.member2 p.0.0.0.0.1,
      p.0.0.0.1.0,
      p.0.0.1.0,
      p.0.1.0,
      p.1.0,
    )
