-- 'Enough' says something: it is upward closed, some v is enough and some v > 0 is not; and how a single g and a single e for each row
-- settle it, though it speaks of all.
use Prim.Native.Nat.{ℕ, ◌+◌, ◌*◌, ◌≤◌, ◌<◌}
use mathlib.Core.List.{List, [], ◌∷◌}
use native.Mathlib.Omega.{arith}
use native.Mathlib.Nat.{mul-pos, mul-le-mul_left, mul-le-mul_right}
use lib.Dec.{lit<}
use Rattle.strength.specs.Fraction.{Fraction, ◌over◌, whole, ◌↑◌, ◌≼◌, Proper}
use Rattle.strength.specs.Shear.{AtMostR, PlaneWithin}
use Rattle.strength.proofs.Falling.{falls}
use Rattle.wide.proofs.Powers.{square_le, square_is}
use Rattle.group.specs.Rows.{NotAbove}
use Rattle.group.proofs.Effective.{not_above_not_below}
use Rattle.joint.specs.Design.{Carrier, Design, Each}
use Rattle.joint.specs.Use.{Above0, plane_force, row_force, RowsEnough, Enough, UseBracket}

pub each_map : (P Q : Carrier → Type 0) → ((m : Carrier) → P m → Q m) → (ms : List Carrier) → Each P ms → Each Q ms
each_map P Q f [] e = tt
each_map P Q f (m ∷ ms) e = (f m e.0, each_map P Q f ms e.1)

-- what of a design the laws rest on
pub record Sound (j : Design) : Type 0 where
  pub plane : PlaneWithin j.plane
  pub counted : Above0 j.counted
  pub diameter : 0 < j.diameter
  pub kmod : 0 < j.kmod

-- squares order fractions
squares : (g G : Fraction) (F : ℕ) → (g ↑ 2) ≼ whole F → whole F ≼ (G ↑ 2) → g ≼ G
squares g G F h k =
    square_le (g.num * G.den) (G.num * g.den)
    (omega (
      arith,
      mul-le-mul_right (G.den * G.den) (rw (square_is g.num, square_is g.den) at h),
      mul-le-mul_right (g.den * g.den) (rw (square_is G.num, square_is G.den) at k),
    ))

-- the force on a plane grows with g and falls as v and e grow
force_falls : (g T : Fraction) (h : ℕ) (u v : Fraction) → u ≼ v → plane_force g T h v ≼ plane_force g T h u
force_falls g T h u v l = omega (arith, mul-le-mul_left (g.num * T.den * (g.den * (T.num * h))) l)

force_grows : (g G T : Fraction) (h : ℕ) (v : Fraction) → g ≼ G → plane_force g T h v ≼ plane_force G T h v
force_grows g G T h v l = omega (arith, mul-le-mul_left (T.den * v.den * (T.num * h * v.num)) l)

row_falls : (c n : ℕ) (e T : Fraction) (h : ℕ) (u v : Fraction) → u ≼ v → row_force c n e T h v ≼ row_force c n e T h u
row_falls c n e T h u v l = omega (arith, mul-le-mul_left (c * n * (e.den * T.den) * (e.num * T.num * h)) l)

row_shrinks : (c n : ℕ) (e f T : Fraction) (h : ℕ) (v : Fraction) → e ≼ f → row_force c n f T h v ≼ row_force c n e T h v
row_shrinks c n e f T h v l = omega (arith, mul-le-mul_left (c * n * (T.den * v.den) * (T.num * h * v.num)) l)

-- at this v a force of 1 N reaches (c + 2)/1000
reached :
    (T : Fraction) (h c : ℕ) →
    (c + 2) over 1000 ≼ plane_force (whole 1) T h ((130000 * T.den) over (T.num * h * (c + 2)))
reached T h c = omega arith

module _ (j : Design) (s : Sound j) where
  abbrev P : Fraction → Type 0
  P = AtMostR j.plane

  abbrev T : Fraction
  T = j.counted

  abbrev h : ℕ
  h = j.kmod

  drops : (x y : Fraction) → Proper x → y ≼ x → P x → P y
  drops = falls j.plane s.plane

  -- no denominator of the two forces is 0
  force_proper : (g v : Fraction) → Proper g → Above0 v → Proper (plane_force g T h v)
  force_proper g v pg pv = mul-pos (mul-pos (lit< tt) pg) (mul-pos (mul-pos s.counted.num s.kmod) pv.num)

  row_proper : (c n : ℕ) (e v : Fraction) → Above0 e → Above0 v → Proper (row_force c n e T h v)
  row_proper c n e v pe pv =
      mul-pos (lit< tt) (mul-pos (mul-pos (mul-pos pe.num s.counted.num) s.kmod) pv.num)

  -- more is enough where less is
  pub enough_up : (u v : Fraction) → Above0 v → u ≼ v → Enough j u → Enough j v
  enough_up u v pv l e = record {
    above0 = pv;
    total = λ g pg hg. drops _ _ (force_proper g u pg e.above0) (force_falls g T h u v l) (e.total g pg hg);
    rows = each_map (RowsEnough j u) (RowsEnough j v) rows j.members e.rows;
  }
    where
      rows : (m : Carrier) → RowsEnough j u m → RowsEnough j v m
      rows m r n a1 is f pf b =
          drops _ _ (row_proper m.along n f u pf e.above0) (row_falls m.along n f T h u v l) (r n a1 is f pf b)

  -- one G not below the force, and for each row one e not above its effective number, are enough to test
  pub record RowBy (v : Fraction) (c n a1 : ℕ) : Type 0 where
    pub e : Fraction
    pub above0 : Above0 e
    pub not_above : NotAbove j.diameter n a1 e
    pub passes : P (row_force c n e T h v)

  abbrev pub RowsBy : Fraction → Carrier → Type 0
  RowsBy v m = (n a1 : ℕ) → m.row n a1 → RowBy v m.along n a1

  pub enough_by :
      (v G : Fraction) → Above0 v → Proper G → whole j.squared_force ≼ (G ↑ 2) → P (plane_force G T h v) →
      Each (RowsBy v) j.members → Enough j v
  enough_by v G pv pG hG p by = record {
    above0 = pv;
    total = λ g pg hg.
        drops _ _ (force_proper G v pG pv) (force_grows g G T h v (squares g G j.squared_force hg hG)) p;
    rows = each_map (RowsBy v) (RowsEnough j v) rows j.members by;
  }
    where
      rows : (m : Carrier) → RowsBy v m → RowsEnough j v m
      rows m r n a1 is f pf b =
          let q = r n a1 is in
          let l = not_above_not_below j.diameter n a1 q.e f s.diameter q.not_above b in
          drops _ _ (row_proper m.along n q.e v q.above0 pv) (row_shrinks m.along n q.e f T h v l) q.passes

  -- what the verdict says: 'fits' that every v from 1 on is enough, 'overloaded' that none below 9,999/10,050 is
  pub fits_enough : (U : ℕ) → UseBracket j U → U ≤ 10000 → (v : Fraction) → Proper v → whole 1 ≼ v → Enough j v
  fits_enough U b l v pv one =
      enough_up (U over 10000) v (record { num = omega (arith, pv); den = pv })
      (omega (arith, mul-le-mul_right v.den l)) b.enough

  pub overloaded_not : (U : ℕ) → UseBracket j U → 10000 < U → (v : Fraction) → Enough j v → 9999 over 10050 ≼ v
  overloaded_not U b l v e = omega (arith, b.least v e, mul-le-mul_right v.den l)

  -- some v above 0 is not enough
  pub some_not : (c : ℕ) → (P ((c + 2) over 1000) → ⊥) → 1 ≤ j.squared_force → (v : Fraction) × Above0 v × (Enough j v → ⊥)
  some_not c high some =
      let v = (130000 * T.den) over (T.num * h * (c + 2)) in
      let pv : Above0 v = record {
        num = mul-pos (lit< tt) s.counted.den;
        den = mul-pos (mul-pos s.counted.num s.kmod) (omega arith);
      } in (
        v,
        pv,
        λ e.
            high (drops _ _ (force_proper (whole 1) v (lit< tt) pv) (reached T h c) (e.total (whole 1) (lit< tt) (omega (arith, some)))),
      )
