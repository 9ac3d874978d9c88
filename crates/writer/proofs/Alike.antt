-- Tables that are turned away alike and have the same classes let the same values be written, to the same bytes; so does the printed table,
-- handed in as bytes in a firm's layout (02, A4).
use Prim.Native.Nat.{ℕ}
use mathlib.Core.Path.{◌≡◌, ap}
use mathlib.Core.List.{List, [], ◌∷◌, ◌++◌}
use lib.Dec.{ltb}
use lib.IntN.{ℤ}
use lib.ListN.{length}
use Rattle.tables.specs.Tests.{Test, test}
use Rattle.tables.specs.Table.{Table, Right, Alike, printed, printed_bytes, printed_as_own}
use Rattle.tables.proofs.Loading.{own_right, printed_right}
use Rattle.tables.proofs.Same.{printed_alike}
use Rattle.joint.specs.Layout.{bytes_of}
use Rattle.joint.proofs.Alike.{same_tests, first_same}
use Rattle.writer.specs.declared.Fields.{Fields}
use Rattle.writer.specs.Write.{values_from, handed_tests, own_tests, writer_number, written_of, buffer_after}

module _ (t u : Table) (p : Right t) (q : Right u) (alike : Alike t u) (f : Fields) (x y : List ℤ) where
  same_handed : handed_tests t f x y ≡ handed_tests u f x y
  same_handed = simp (same_tests t u p q alike (values_from f x y))

  same_number : (room : ℕ) → writer_number t f x y room ≡ writer_number u f x y room
  unfolding writer_number own_tests
  same_number room =
      first_same t u p q alike (own_tests t f x y room) (own_tests u f x y room)
      (ap (λ (l : List Test). l ++ test 13 (ltb room (length (bytes_of (values_from f x y)))) ∷ []) same_handed)

  pub same_written : (room : ℕ) → written_of t f x y room ≡ written_of u f x y room
  unfolding written_of
  same_written room = simp (same_number room)

  pub same_buffer : (buffer : List ℕ) → buffer_after t f x y buffer ≡ buffer_after u f x y buffer
  unfolding buffer_after
  same_buffer buffer = simp (same_number (length buffer))

-- ---- the printed table as bytes
module _ (f : Fields) (x y : List ℤ) where
  pub printed_written : (room : ℕ) → written_of printed_as_own f x y room ≡ written_of printed f x y room
  printed_written = same_written printed_as_own printed (own_right printed_bytes) printed_right printed_alike f x y

  pub printed_buffer : (buffer : List ℕ) → buffer_after printed_as_own f x y buffer ≡ buffer_after printed f x y buffer
  printed_buffer = same_buffer printed_as_own printed (own_right printed_bytes) printed_right printed_alike f x y
