-- The order of a record's 27 numbers in a slice, both ways: version, planes, then member 1 and member 2, then the others.
use Rattle.std.specs.Prelude.{ℕ, ◌+◌, List, [], ◌∷◌, ◌++◌, get_or, ℤ, pos}
use Rattle.writer.specs.declared.MemberFields.{MemberFields}
use Rattle.writer.specs.declared.Fields.{Fields}

-- number k, counted from 0
abbrev pub number_at : List ℤ → ℕ → ℤ
number_at l k = get_or l k (pos 0)

-- ---- a member's nine numbers, from number k on
abbrev pub member_in : List ℤ → ℕ → MemberFields
member_in l k =
    record {
      class = number_at l k;
      grain = number_at l (k + 1);
      gx = number_at l (k + 2);
      gy = number_at l (k + 3);
      thickness = number_at l (k + 4);
      x0 = number_at l (k + 5);
      y0 = number_at l (k + 6);
      x1 = number_at l (k + 7);
      y1 = number_at l (k + 8);
    }

abbrev pub member_numbers : MemberFields → List ℤ
member_numbers m =
    m.class ∷ m.grain ∷ m.gx ∷ m.gy ∷ m.thickness ∷ m.x0 ∷ m.y0 ∷ m.x1 ∷ m.y1 ∷ []

-- ---- all
unfoldable pub fields_in : List ℤ → Fields
fields_in l =
    record {
      version = number_at l 0;
      planes = number_at l 1;
      member1 = member_in l 2;
      member2 = member_in l 11;
      diameter = number_at l 20;
      steel = number_at l 21;
      plate = number_at l 22;
      service_class = number_at l 23;
      duration = number_at l 24;
      fx = number_at l 25;
      fy = number_at l 26;
    }

unfoldable pub numbers_of : Fields → List ℤ
numbers_of f =
    f.version ∷ f.planes ∷ []
    ++ member_numbers f.member1
    ++ member_numbers f.member2
    ++ f.diameter ∷ f.steel ∷ f.plate ∷ f.service_class ∷ f.duration ∷ f.fx ∷ f.fy ∷ []
