-- What a verdict says, in 01's order: the place named breaks its rule and nothing before it does; where none is named, every
-- pair and every dowel passes. The laws in proofs/Laws show this of the verdicts. Dowels are counted from 0 here.
use Rattle.std.specs.Prelude.{ℕ, ◌+◌, ◌<◌, ◌≡◌, Bool, true, false, List, ℤ}
use Rattle.spacing.specs.declared.edge.EdgeRule.{EdgeRule}
use Rattle.spacing.specs.declared.view.Which.{Which}
use Rattle.spacing.specs.declared.view.Which.TheVariants.{Member1, Member2}
use Rattle.spacing.specs.declared.view.Piece.{Piece}
use Rattle.spacing.specs.declared.view.Frame.{Frame}
use Rattle.spacing.specs.Spacing.{along, across, frame_of, too_close, end_too_near, edge_too_near}
use Rattle.spacing.specs.Verdict.{Fault, fault, number_of}

-- of n dowels, i and j are the first bad pair, first by i, then by j
pub record FirstPair (bad : ℕ → ℕ → Bool) (n i j : ℕ) : Type 0 where
  pub order : i < j
  pub within : j < n
  pub breaks : bad i j ≡ true
  pub earlier : (k l : ℕ) → k < i → k < l → l < n → bad k l ≡ false
  pub between : (l : ℕ) → i < l → l < j → bad i l ≡ false

abbrev pub NoPair : (ℕ → ℕ → Bool) → ℕ → Type 0
NoPair bad n = (k l : ℕ) → k < l → l < n → bad k l ≡ false

-- of n dowels, i is the first bad one
pub record FirstOne (bad : ℕ → Bool) (n i : ℕ) : Type 0 where
  pub within : i < n
  pub breaks : bad i ≡ true
  pub before : (k : ℕ) → k < i → bad k ≡ false

abbrev pub NoOne : (ℕ → Bool) → ℕ → Type 0
NoOne bad n = (k : ℕ) → k < n → bad k ≡ false

pub data MemberSays (rule : EdgeRule) (member : ℕ) (v : Frame) (d : ℕ) (a b : List ℤ) (n : ℕ) : Fault → Type 0 where
  close : (i j : ℕ) → FirstPair (too_close v d a b) n i j → MemberSays rule member v d a b n (fault 10 member (i + 1) (j + 1))
  end :
      (i : ℕ) → NoPair (too_close v d a b) n → FirstOne (end_too_near v d a) n i →
      MemberSays rule member v d a b n (fault 11 member (i + 1) 0)
  edge :
      (i : ℕ) → NoPair (too_close v d a b) n → NoOne (end_too_near v d a) n → FirstOne (edge_too_near rule v d b) n i →
      MemberSays rule member v d a b n (fault 12 member (i + 1) 0)
  passes :
      NoPair (too_close v d a b) n → NoOne (end_too_near v d a) n → NoOne (edge_too_near rule v d b) n →
      MemberSays rule member v d a b n (fault 0 0 0 0)

-- member 1 or 2 of a record
abbrev pub Says : EdgeRule → Which → Piece → ℕ → ℤ → ℤ → List ℤ → List ℤ → ℕ → Fault → Type 0
Says rule which m d fx fy x y n f =
    MemberSays rule (number_of which) (frame_of which m fx fy) d (along m.grain x y) (across m.grain x y) n f

-- a fault of member 1; or member 1 passes and this is what member 2 says
pub data JointSays (rule : EdgeRule) (m₁ m₂ : Piece) (d : ℕ) (fx fy : ℤ) (x y : List ℤ) (n : ℕ) : Fault → Type 0 where
  member1 : (f : Fault) → (f.number ≡ 0 → ⊥) → Says rule Member1 m₁ d fx fy x y n f → JointSays rule m₁ m₂ d fx fy x y n f
  member2 :
      (f g : Fault) → f.number ≡ 0 → Says rule Member1 m₁ d fx fy x y n f → Says rule Member2 m₂ d fx fy x y n g →
      JointSays rule m₁ m₂ d fx fy x y n g
