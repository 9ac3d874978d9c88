-- The entries for C that find whole square roots (02, A5): what comes back, and what the slice holds afterwards.
use Rattle.std.specs.Prelude.{ℕ, ◌≡◌, Bool, List, [], ◌∷◌, ltb, length}
use Rattle.strength.specs.declared.roots.Bracket.{Bracket}
use Rattle.strength.specs.Roots.{SquareRoot}
use Rattle.strength.specs.Halvings.{Starting, Counted}
use Rattle.lent.specs.Lent.{code_of, put}

-- an answer takes two numbers
abbrev pub answer_short : List ℕ → Bool
answer_short entry = ltb (length entry) 2

pub record Handed (first second : ℕ) (entry : List ℕ) (result : ℕ) (exit : List ℕ) : Type 0 where
  pub code : result ≡ code_of (answer_short entry)
  pub out : exit ≡ put (answer_short entry) (first ∷ second ∷ []) entry

-- low and high of the starting bracket
pub record BracketOut (n : ℕ) (entry : List ℕ) (result : ℕ) (exit : List ℕ) : Type 0 where
  pub bracket : Bracket
  pub starts : Starting n bracket
  pub handed : Handed bracket.low bracket.high entry result exit

-- the root and the count of halvings
pub record RootOut (n : ℕ) (entry : List ℕ) (result : ℕ) (exit : List ℕ) : Type 0 where
  pub root : ℕ
  pub halvings : ℕ
  pub near : SquareRoot n root
  pub counted : Counted n root halvings
  pub handed : Handed root halvings entry result exit
