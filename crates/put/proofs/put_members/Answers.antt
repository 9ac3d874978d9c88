-- Two bytes, and right after them the members, of 20 bytes each.
use mathlib.Core.List.{[], ◌∷◌}
use mathlib.Core.Path.{refl}
use Rattle.numbers.proofs.Bytes.{first, next}
use Rattle.joint.specs.Layout.{member_bytes, members_bytes}
use Rattle.put.proofs.Lengths.{member_length}
use Rattle.put.proofs.put_members.Goals as goal

pub returns : goal.returns
unfolding members_bytes
returns c = let a = c.args in
    let m = a.m.now in
    let front = next (first a.s.now a.at (1 ∷ []) refl) (m.planes ∷ []) refl refl in
    let one = next front (member_bytes m.member1) refl c.put_member.ensures in
    (next one (member_bytes m.member2) (simp member_length) c.put_member-2.ensures).is
