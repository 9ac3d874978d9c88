-- The entries of a firm's classes (02, A4), in a stretch of bytes, here the list of them.
use Rattle.std.specs.Prelude.{ℕ, Bool, true, cond, not, ◌&&◌, List, [], ◌∷◌, map, ltb, leb, eqb, Option}
use Rattle.numbers.specs.Fields.{Width, field}
use Rattle.numbers.specs.Fields.Width.{U8, U16}
use Rattle.codes.specs.declared.Wood.{Wood}
use Rattle.codes.specs.Tables.{Line, line, softwood, hardwood}
use Rattle.tables.specs.declared.entry.Entry.{Entry}

-- 'entries of 4 bytes: code u8 from 1, kind u8 (0 softwood, 1 hardwood), density u16 from 290 to 1,100', in kg/m³ as the printed densities
abbrev pub entry_fields : List Width
entry_fields = U8 ∷ U8 ∷ U16 ∷ []

-- the entry whose first byte is byte i
abbrev pub entry_at : List ℕ → ℕ → Entry
entry_at b i = record { code = field entry_fields 0 b i; kind = field entry_fields 1 b i; density = field entry_fields 2 b i }

-- the entries of a stretch, four bytes to each
unfoldable pub entries_in : List ℕ → List Entry
entries_in [] = []
entries_in (a ∷ []) = []
entries_in (a ∷ b ∷ []) = []
entries_in (a ∷ b ∷ c ∷ []) = []
entries_in (a ∷ b ∷ c ∷ d ∷ more) = entry_at (a ∷ b ∷ c ∷ d ∷ []) 0 ∷ entries_in more

-- and of a stretch that is cut into these fours
abbrev pub entries_of : List (List ℕ) → List Entry
entries_of fours = map (λ (four : List ℕ). entry_at four 0) fours

-- '15, an entry outside its limits or a code not above the one before'; a code is a byte, and 'from 1' says that the first is above 0
unfoldable pub entry_within : Entry → Bool
entry_within e = leb e.code 255 && leb e.kind 1 && leb 290 e.density && leb e.density 1100

unfoldable pub rise : ℕ → List Entry → Bool
rise before [] = true
rise before (e ∷ more) = entry_within e && ltb before e.code && rise e.code more

unfoldable pub refusal15 : List Entry → Bool
refusal15 es = not (rise 0 es)

-- what an entry says: kind 0 softwood, 1 hardwood
abbrev pub class_of : Entry → Option Wood
class_of e = cond (eqb e.kind 0) (softwood e.density) (hardwood e.density)

abbrev pub line_of : Entry → Line (Option Wood)
line_of e = line e.code (class_of e)
