-- What an entry for C leaves in a lent slice.
use Rattle.std.specs.Prelude.{ℕ, Bool, cond, List, [], ◌∷◌, ◌++◌, length, drop}

-- 1 where a slice is too short
abbrev pub code_of : Bool → ℕ
code_of short = cond short 1 0

-- these at the front, and what the slice has past them stays
abbrev pub front : {A : Type 0} → List A → List A → List A
front these entry = these ++ drop (length these) entry

-- a slice is left as it is where one is too short
abbrev pub put : {A : Type 0} → Bool → List A → List A → List A
put short these entry = cond short entry (front these entry)

-- an answer: the refusal's number or 0, and a count, of dowels or of bytes
abbrev pub told : ℕ → ℕ → List ℕ
told number count = number ∷ count ∷ []
