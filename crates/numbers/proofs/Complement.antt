-- Two's complement at 32 bits: std's words for it are the record's.
use Prim.Native.Nat.{ℕ, ◌<◌}
use mathlib.Core.Bool.{Bool, true, false}
use native.Mathlib.Omega.{arith}
use borrow.Author.Tests.{lt-ltb}
use mathlib.Core.Path.{◌≡◌, refl, sym, ap, ◌∙◌}
use lib.Dec.{ltb}
use lib.IntN.{ℤ, pos, negsuc}
use lib.Signed.{mag}
use mir.Facts.{to_z-of_z}
use mir.Syntax.{w32}
use mir.Val.{to_z, of_z}
use Rattle.numbers.specs.Numbers.{twos_complement, complement_of}

pub signed : (n : ℕ) → n < 4294967296 → to_z w32 n ≡ twos_complement n
unfolding twos_complement
signed n h = go (ltb n 2147483648) refl
  where
    go : (b : Bool) → ltb n 2147483648 ≡ b → to_z w32 n ≡ twos_complement n
    go true e = simp e
    go false e = simp (e, lt-ltb n 4294967296 h) (ap negsuc (omega arith))

pub bits : (z : ℤ) → of_z w32 z ≡ complement_of z
unfolding complement_of
bits (pos n) = refl
bits (negsuc n) = omega arith

small : (z : ℤ) → mag z < 2147483648 → complement_of z < 4294967296
unfolding complement_of
small (pos n) h = omega arith
small (negsuc n) h = omega arith

pub back : (z : ℤ) → mag z < 2147483648 → twos_complement (complement_of z) ≡ z
back z h = sym (signed (complement_of z) (small z h)) ∙ ap (to_z w32) (sym (bits z)) ∙ to_z-of_z {w = w32} {z = z} (record { sfits = h })
