-- Where the verdict names nothing, no two dowels are too close in either member.
use Prim.Native.Nat.{ℕ}
use mathlib.Core.Path.{◌≡◌}
use mathlib.Core.List.{List}
use native.Mathlib.Omega.{arith}
use lib.IntN.{ℤ}
use Rattle.spacing.specs.declared.edge.EdgeRule.{EdgeRule}
use Rattle.spacing.specs.declared.view.Which.{Which}
use Rattle.spacing.specs.declared.view.Which.TheVariants.{Member1, Member2}
use Rattle.spacing.specs.declared.view.Piece.{Piece}
use Rattle.spacing.specs.declared.view.Frame.{Frame}
use Rattle.spacing.specs.Spacing.{along, across, frame_of, too_close}
use Rattle.spacing.specs.Verdict.{Fault}
use Rattle.spacing.specs.Says.{MemberSays, JointSays, NoPair}
use Rattle.spacing.specs.Says.MemberSays.{close, end, edge, passes}
use Rattle.spacing.specs.Says.JointSays.{member1, member2}

pub member_apart :
    {rule : EdgeRule} {member : ℕ} {v : Frame} {d : ℕ} {a b : List ℤ} {n : ℕ} (f : Fault) → MemberSays rule member v d a b n f →
    f.number ≡ 0 → NoPair (too_close v d a b) n
member_apart f (close i j p) e = absurd (omega arith)
member_apart f (end i p q) e = absurd (omega arith)
member_apart f (edge i p q r) e = absurd (omega arith)
member_apart f (passes p q r) e = p

abbrev pub Apart : Which → Piece → ℕ → ℤ → ℤ → List ℤ → List ℤ → ℕ → Type 0
Apart which m d fx fy x y n = NoPair (too_close (frame_of which m fx fy) d (along m.grain x y) (across m.grain x y)) n

pub joint_apart :
    {rule : EdgeRule} {m₁ m₂ : Piece} {d : ℕ} {fx fy : ℤ} {x y : List ℤ} {n : ℕ} (f : Fault) → JointSays rule m₁ m₂ d fx fy x y n f →
    f.number ≡ 0 → Apart Member1 m₁ d fx fy x y n × Apart Member2 m₂ d fx fy x y n
joint_apart f (member1 g p q) e = absurd (p e)
joint_apart f (member2 g h k p q) e = (member_apart g p k, member_apart h q e)
