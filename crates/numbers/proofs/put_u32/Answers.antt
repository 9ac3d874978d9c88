use Prim.Native.Nat.{ℕ, ◌+◌, ◌-◌, ◌<◌, ◌≤◌}
use native.Mathlib.Omega.{arith}
use mathlib.Core.List.{List}
use mathlib.Core.Path.{◌≡◌, sym, ◌∙◌}
use lib.ListN.{length}
use lib.Seq.{sets, drop-drop}
use borrow.Rule.Slice.PartMut.{put_mid}
use mir.Syntax.{w32}
use Rattle.std.proofs.Common.{append_assoc}
use Rattle.std.specs.Int.{to_le_bytes}
use Rattle.std.proofs.lemmas.List.Edits.{sets-eq}
use Rattle.numbers.specs.Numbers.{u32_bytes}
use Rattle.numbers.proofs.put_u32.Goals as goal

same : (n : ℕ) → n < 4294967296 → to_le_bytes w32 n ≡ u32_bytes n
same n h = grind arith

stored : (s : List ℕ) (i k n : ℕ) {ys : List ℕ} → n < 4294967296 → i + 4 ≤ length s → k ≡ 4 → ys ≡ to_le_bytes w32 n → put_mid i k s ys ≡ sets s i (u32_bytes n)
stored s i k n h g e q = let b = q ∙ same n h in rw (e, b, drop-drop 4 i s) (sym (simp append_assoc at (sets-eq (u32_bytes n) s i g)))

pub returns : goal.returns
returns c = stored c.args.s.now c.args.i (c.args.i + 4 - c.args.i) c.args.n (omega arith) (omega arith) (omega arith) (cc)
