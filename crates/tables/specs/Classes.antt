-- What a table of classes has at a code, whichever table it is.
use Rattle.std.specs.Prelude.{ℕ, ◌≤◌, ◌≡◌, true, List, Option, None}
use Rattle.codes.specs.declared.Wood.{Wood}
use Rattle.codes.specs.Tables.{Line, lookup, is_known, wood_in}

-- what a table of classes has at a code
unfoldable pub class_in : List (Line (Option Wood)) → ℕ → Option Wood
class_in classes = lookup None classes

-- what the figures and the writer ask of a table: its codes are those of a byte, its densities from 290 to 1,100 kg/m³
pub record Sound (classes : List (Line (Option Wood))) : Type 0 where
  pub byte : (code : ℕ) → is_known (class_in classes code) ≡ true → code ≤ 255
  pub density_low : (code : ℕ) → is_known (class_in classes code) ≡ true → 290 ≤ (wood_in (class_in classes code)).density
  pub density_high : (code : ℕ) → is_known (class_in classes code) ≡ true → (wood_in (class_in classes code)).density ≤ 1100
