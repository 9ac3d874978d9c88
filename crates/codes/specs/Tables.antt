-- The tables of 01 and of 02's A1: what a code stands for, and which versions there are. A code that a table lacks stands for `None`.
use Rattle.std.specs.Prelude.{ℕ, ◌+◌, ◌*◌, Bool, true, false, cond, ◌&&◌, List, [], ◌∷◌, eqb, leb, Option, Some, None, unwrap_or}
use Rattle.codes.specs.declared.Kind.{Kind}
use Rattle.codes.specs.declared.Kind.TheVariants.{Softwood, Hardwood}
use Rattle.codes.specs.declared.Wood.{Wood}

-- the versions of records that are known: 1 (01, 'Bytes 0-1: version, 1') and 2 (02, A7)
abbrev pub is_version : ℕ → Bool
is_version n = leb 1 n && leb n 2

-- a line of a table: a code, and what stands there
pub record Line (A : Type 0) : Type 0 where
  pub code : ℕ
  pub entry : A

abbrev pub line : {A : Type 0} → ℕ → A → Line A
line c a = record { code = c; entry = a }

-- the entry at a code, or `none` where no line has it
abbrev pub lookup : {A : Type 0} → A → List (Line A) → ℕ → A
lookup none [] c = none
lookup none (l ∷ ls) c = cond (eqb c l.code) l.entry (lookup none ls c)

-- the wood of a class: its kind, and its density in kg/m³
abbrev pub softwood : ℕ → Option Wood
softwood density = Some (record { kind = Softwood; density = density })

abbrev pub hardwood : ℕ → Option Wood
hardwood density = Some (record { kind = Hardwood; density = density })

-- the printed table of classes, density in kg/m³; 01, 'Strength of a shear plane': 1 C24, 2 C30, 3 GL24h, 4 GL24c, 5 GL28h, 6 GL28c,
-- 7 GL32h, 8 GL32c; 02, A1, as in EN 338:2009: 9 D30, 10 D40, 11 D70
unfoldable pub printed_classes : List (Line (Option Wood))
printed_classes =
    line 1 (softwood 350)
    ∷ line 2 (softwood 380)
    ∷ line 3 (softwood 385)
    ∷ line 4 (softwood 365)
    ∷ line 5 (softwood 425)
    ∷ line 6 (softwood 390)
    ∷ line 7 (softwood 440)
    ∷ line 8 (softwood 400)
    ∷ line 9 (hardwood 530)
    ∷ line 10 (hardwood 550)
    ∷ line 11 (hardwood 900)
    ∷ []

-- what the table has at a code
unfoldable pub class_of : ℕ → Option Wood
class_of = lookup None printed_classes

-- whether a table has a code
abbrev pub is_known : Option Wood → Bool
is_known (Some w) = true
is_known None = false

-- the wood at a code; every class of an accepted record is known
abbrev pub wood_in : Option Wood → Wood
wood_in (Some w) = w
wood_in None = record { kind = Softwood; density = 0 }

abbrev pub wood_of : ℕ → Wood
wood_of code = wood_in (class_of code)

-- k90 in thousandths, d in mm: 1.35 + 0.015 d for softwood (000, (194)), 0.90 + 0.015 d for hardwood (000, (195)); for every d, 000's
-- k90 = 1 for thin dowels is not used
abbrev pub k90_of : Kind → ℕ → ℕ
k90_of Softwood d = 1350 + 15 * d
k90_of Hardwood d = 900 + 15 * d

-- 01: steel fu in N/mm²: 1 S235, 2 S275, 3 S355
unfoldable pub steel_of : ℕ → Option ℕ
steel_of = lookup None (line 1 (Some 360) ∷ line 2 (Some 430) ∷ line 3 (Some 510) ∷ [])

-- one service class: kmod for the durations 1 permanent, 2 long, 3 medium, 4 short, 5 instantaneous
abbrev pub durations : ℕ → ℕ → ℕ → ℕ → ℕ → ℕ → Option ℕ
durations a b c d e =
    lookup None
    (line 1 (Some a) ∷ line 2 (Some b) ∷ line 3 (Some c) ∷ line 4 (Some d) ∷ line 5 (Some e) ∷ [])

-- 01, 'Rows, share and use': kmod in hundredths by service class and duration
unfoldable pub kmod_of : ℕ → ℕ → Option ℕ
kmod_of =
    lookup (λ duration. None)
    (line 1 (durations 60 70 80 90 110)
    ∷ line 2 (durations 60 70 80 90 110)
    ∷ line 3 (durations 50 55 65 70 90)
    ∷ [])

-- what such a table has; every code of an accepted record is listed
abbrev pub listed : Option ℕ → ℕ
listed entry = unwrap_or entry 0
