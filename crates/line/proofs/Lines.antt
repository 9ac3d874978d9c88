-- Lines that follow from the definition alone: joint B's, and a refusal's.
use mathlib.Core.Path.{◌≡◌, refl}
use mathlib.Core.List.{[], ◌∷◌}
use Rattle.joint.specs.Answer.Verdict.{Fits, Refused}
use Rattle.line.specs.Line.{line_of, decimal_from}

-- `fits 7432 7441 7347`
pub joint_b_lem :
    line_of
    (record { verdict = Fits; number = 0; member = 0; first = 0; second = 0; usage = 7432; capacity = 7441; share = 7347 })
    ≡ 102 ∷ 105 ∷ 116 ∷ 115 ∷ 32 ∷ 55 ∷ 52 ∷ 51 ∷ 50 ∷ 32 ∷ 55 ∷ 52 ∷ 52 ∷ 49 ∷ 32 ∷ 55 ∷ 51 ∷ 52 ∷ 55 ∷ 10 ∷ []
unfolding line_of decimal_from
joint_b_lem = refl

-- `refused 10 1 1 2`
pub too_close_lem :
    line_of (record { verdict = Refused; number = 10; member = 1; first = 1; second = 2; usage = 0; capacity = 0; share = 0 })
    ≡ 114 ∷ 101 ∷ 102 ∷ 117 ∷ 115 ∷ 101 ∷ 100 ∷ 32 ∷ 49 ∷ 48 ∷ 32 ∷ 49 ∷ 32 ∷ 49 ∷ 32 ∷ 50 ∷ 10 ∷ []
unfolding line_of decimal_from
too_close_lem = refl
