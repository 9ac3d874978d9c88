-- The verdict of a member: the first fault in the order 10, 11, 12 with its place (01, 'Who causes which refusal').
use Rattle.std.specs.Prelude.{ℕ, ◌+◌, cond, List, ltb, eqb, ℤ, Result, Ok, Err}
use Rattle.spacing.specs.declared.edge.EdgeRule.{EdgeRule}
use Rattle.spacing.specs.declared.view.Which.{Which}
use Rattle.spacing.specs.declared.view.Which.TheVariants.{Member1, Member2}
use Rattle.spacing.specs.declared.view.Piece.{Piece}
use Rattle.spacing.specs.declared.view.Frame.{Frame}
use Rattle.spacing.specs.declared.verdict.Fault.{Fault as Refusal}
use Rattle.spacing.specs.declared.verdict.Fault.TheVariants.{DowelsTooClose, EndTooNear, EdgeTooNear}
use Rattle.spacing.specs.Spacing.{along, across, frame_of, too_close, end_too_near, edge_too_near}
use Rattle.spacing.specs.Search.{first_from, partner, first_pair}

-- A refusal 10, 11 or 12 with its place, dowels counted from 1; all 0 where the spacing passes.
pub record Fault : Type 0 where
  pub number : ℕ
  pub member : ℕ
  pub first : ℕ
  pub second : ℕ

abbrev pub fault : ℕ → ℕ → ℕ → ℕ → Fault
fault number member first second = record { number = number; member = member; first = first; second = second }

-- 10 two dowels too close: the place is member and dowels i < j, counted from 1, first by i, then by j.
unfoldable pub pair_fault : ℕ → Frame → ℕ → List ℤ → List ℤ → ℕ → Fault
pair_fault member v d a b n =
    let i = first_pair (too_close v d a b) n in
    cond (ltb i n) (fault 10 member (i + 1) (partner (too_close v d a b) n i + 1)) (fault 0 0 0 0)

-- 11 an end too near, 12 an edge too near: the member and the first such dowel in record order, second dowel 0.
abbrev pub one_dowel : ℕ → ℕ → ℕ → ℕ → Fault
one_dowel number member i n = cond (ltb i n) (fault number member (i + 1) 0) (fault 0 0 0 0)

unfoldable pub end_fault : ℕ → Frame → ℕ → List ℤ → ℕ → Fault
end_fault member v d a n = one_dowel 11 member (first_from (end_too_near v d a) 0 n) n

unfoldable pub edge_fault : EdgeRule → ℕ → Frame → ℕ → List ℤ → ℕ → Fault
edge_fault rule member v d b n = one_dowel 12 member (first_from (edge_too_near rule v d b) 0 n) n

-- the first fault, where there is one, else the second
abbrev pub or_else : Fault → Fault → Fault
or_else f g = cond (eqb f.number 0) g f

-- the first fault in the order 10, 11, 12
unfoldable pub verdict_in : EdgeRule → ℕ → Frame → ℕ → List ℤ → List ℤ → ℕ → Fault
verdict_in rule member v d a b n =
    or_else (pair_fault member v d a b n) (or_else (end_fault member v d a n) (edge_fault rule member v d b n))

-- A place names member 1 as 1 and member 2 as 2.
abbrev pub number_of : Which → ℕ
number_of Member1 = 1
number_of Member2 = 2

unfoldable pub member_verdict : EdgeRule → Which → Piece → ℕ → ℤ → ℤ → List ℤ → List ℤ → ℕ → Fault
member_verdict rule which m d fx fy x y n =
    verdict_in rule (number_of which) (frame_of which m fx fy) d (along m.grain x y) (across m.grain x y) n

-- Member 1 for 10, 11, 12, then member 2.
unfoldable pub spacing_verdict : EdgeRule → Piece → Piece → ℕ → ℤ → ℤ → List ℤ → List ℤ → ℕ → Fault
spacing_verdict rule m₁ m₂ d fx fy x y n =
    or_else (member_verdict rule Member1 m₁ d fx fy x y n) (member_verdict rule Member2 m₂ d fx fy x y n)

-- ---- what the answers of the code say in these numbers
abbrev pub fault_of : Refusal → Fault
fault_of (DowelsTooClose member i j) = fault 10 (number_of member) i j
fault_of (EndTooNear member i) = fault 11 (number_of member) i 0
fault_of (EdgeTooNear member i) = fault 12 (number_of member) i 0

abbrev pub told : Result (Unit {0}) Refusal → Fault
told (Ok _) = fault 0 0 0 0
told (Err f) = fault_of f
