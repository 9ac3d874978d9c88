-- Nobody needs to believe this: what the writer's steps hand to one another. `write_with` is equal to `written_of` and `buffer_after`.
use Rattle.std.specs.Prelude.{Bool, cond, ◌&&◌, ℤ, pos, Option, Some, None}
use Rattle.numbers.specs.Numbers.{between_z}
use Rattle.writer.specs.declared.MemberFields.{MemberFields}
use Rattle.writer.specs.declared.Fields.{Fields}

-- ---- numbers that fit their field's bytes
abbrev pub fits_byte : ℤ → Bool
fits_byte z = between_z (pos 0) (pos 255) z

abbrev pub fits_two_bytes : ℤ → Bool
fits_two_bytes z = between_z (pos 0) (pos 65535) z

unfoldable pub member_fits : MemberFields → Bool
member_fits m = fits_byte m.class && fits_byte m.grain && fits_two_bytes m.thickness

unfoldable pub fields_fit : Fields → Bool
fields_fit f =
    fits_byte f.planes && member_fits f.member1 && member_fits f.member2 && fits_byte f.diameter
    && fits_byte f.steel && fits_byte f.service_class && fits_byte f.duration

-- a value, where a test holds
abbrev pub fitting : {A : Type 0} → Bool → A → Option A
fitting b x = cond b (Some x) None
