-- What the library answers, in 01's words and numbers: a refusal's number and place, the values read, the verdict and the figures.
use Rattle.std.specs.Prelude.{ℕ}
use Rattle.joint.specs.declared.Values.{Values}

-- a refusal 1 to 9, or the table's, and values that are all 0; or number 0 and the record's values
pub record Reading : Type 0 where
  pub number : ℕ
  pub values : Values

-- a refusal with its place, and values that are all 0; or number and place 0 and the record's values
pub record Outcome : Type 0 where
  pub number : ℕ
  pub member : ℕ
  pub first : ℕ
  pub second : ℕ
  pub values : Values

pub data Verdict : Type 0 where
  Fits : Verdict
  Overloaded : Verdict
  Refused : Verdict

-- the refusal's number and place, dowels counted from 1, all 0 where the record is accepted; the use in ten-thousandths, the capacity of a
-- shear plane in newtons and the row share in ten-thousandths, all 0 where it is refused
pub record Report : Type 0 where
  pub verdict : Verdict
  pub number : ℕ
  pub member : ℕ
  pub first : ℕ
  pub second : ℕ
  pub usage : ℕ
  pub capacity : ℕ
  pub share : ℕ
