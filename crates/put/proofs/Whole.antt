-- The parts of a record, put one right after the other from byte 0 on, are the record, and bytes past it stay.
use Prim.Native.Nat.{ℕ, ◌+◌, ◌*◌, ◌≤◌}
use native.Mathlib.Nat.{zero-add}
use native.Mathlib.Omega.{arith}
use mathlib.Core.List.{List, ◌++◌, append_assoc, append-nil}
use mathlib.Core.Path.{◌≡◌, sym, ap, ◌∙◌}
use lib.ListN.{length, length-append, drop}
use lib.Seq.{sets, sets-eq}
use Rattle.numbers.proofs.Bytes.{first, next}
use Rattle.joint.specs.declared.Values.{Values}
use Rattle.joint.specs.Layout.{members_bytes, dowel_bytes, positions_bytes, loads_bytes, joined, bytes_of}
use Rattle.put.specs.Front.{front_bytes, record_size}
use Rattle.put.proofs.Lengths.{members_length, dowel_length, positions_length_lem, front_length, front_is, bytes_length}

module _ (v : Values) where
  in_order : front_bytes v.version v.positions.n ++ members_bytes v.members ++ dowel_bytes v.dowel ++ positions_bytes v.positions
      ++ loads_bytes v.loads ≡ bytes_of v
  unfolding joined
  in_order = rw (← front_is v) (simp (append_assoc, append-nil))

  pub whole : (l : List ℕ) {l1 l2 l3 l4 l5 : List ℕ} → l1 ≡ sets l 0 (front_bytes v.version v.positions.n)
      → l2 ≡ sets l1 20 (members_bytes v.members) → l3 ≡ sets l2 62 (dowel_bytes v.dowel) → l4 ≡ sets l3 65 (positions_bytes v.positions)
      → l5 ≡ sets l4 (67 + 8 * v.positions.n) (loads_bytes v.loads) → record_size v.positions.n ≤ length l
      → l5 ≡ bytes_of v ++ drop (length (bytes_of v)) l
  whole l {l1} {l2} {l3} {l4} {l5} e1 e2 e3 e4 e5 room =
      let n = v.positions.n in
      let front = first l 0 (front_bytes v.version n) e1 in
      let members = next front (members_bytes v.members) (front_length v.version n) e2 in
      let dowel = next {k = 62} members (dowel_bytes v.dowel) (simp (length-append, front_length, members_length)) e3 in
      let positions = next {k = 65} dowel (positions_bytes v.positions) (simp (length-append, front_length, members_length, dowel_length)) e4 in
      let loads =
      next {k = 67 + 8 * n} positions (loads_bytes v.loads)
      (simp (length-append, front_length, members_length, dowel_length, positions_length_lem) (omega arith))
      (e5 ∙ ap (λ (k : ℕ). sets l4 k (loads_bytes v.loads)) (sym (zero-add (67 + 8 * n)))) in
      loads.is ∙ ap (sets l 0) in_order ∙ sets-eq (bytes_of v) l 0 (omega (arith, bytes_length v))
      ∙ ap (λ (k : ℕ). bytes_of v ++ drop k l) (zero-add (length (bytes_of v)))
