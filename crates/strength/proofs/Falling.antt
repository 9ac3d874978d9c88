-- Each test of 01 is monotone: what is at most R stays so when it gets smaller.
use Rattle.std.proofs.Common.{◌≡◌, ℕ, ◌+◌, ◌*◌, ◌≤◌, Bool, true, false, eqb, ap, mul-le-mul_right, add-sub_of_le, mul-pos, arith}
use Rattle.strength.specs.declared.plane.Plane.{Plane}
use Rattle.strength.specs.Fraction.{Fraction, whole, ◌⊖◌, ◌⊗◌, ◌⊘◌, ◌↑◌, ◌≼◌, Proper}
use Rattle.strength.specs.Shear.{
  Wedge,
  AtMostFirst,
  AtMostSecond,
  AtMostThird,
  AtMostR,
  OneOrTwo,
  PlaneWithin,
  bearing_force,
  s_squared,
  c_squared,
  first_to_the_tenth,
}
use Rattle.strength.proofs.Ratios.{≼_trans, ↑-mono, ↑-proper, ⊗-mono}
use Rattle.strength.proofs.Bearings.{
  s_positive,
  c_positive,
  side_force_positive,
  other_force_positive,
}

-- what is left of K grows as x falls
less_grows : (kn kd xn xd yn yd a b : ℕ) → xn * kd + a ≡ kn * xd → yn * kd + b ≡ kn * yd → yn * xd ≤ xn * yd
    → a * (kd * yd) ≤ b * (kd * xd)
less_grows kn kd xn xd yn yd a b ea eb h =
    omega (
      arith,
      ap (λ (z : ℕ). z * (kd * yd)) ea,
      ap (λ (z : ℕ). z * (kd * xd)) eb,
      mul-le-mul_right (kd * kd) h,
    )

module _ (K s x y : Fraction) (pK : Proper K) (ps : Proper s) (px : Proper x) (h : y ≼ x) where
  pub wedge_falls : Wedge K s x → Wedge K s y
  wedge_falls w =
      let i : y ≼ K = ≼_trans y x K px h w.within in
      let middle = (K ⊖ x) ↑ 2 ⊗ s in
      let more : (K ⊖ x) ≼ (K ⊖ y) =
      less_grows K.num K.den x.num x.den y.num y.den _ _
      (add-sub_of_le w.within)
      (add-sub_of_le i)
      h in
      record {
        within = i;
        square =
            ≼_trans (y ↑ 2) (x ↑ 2) ((K ⊖ y) ↑ 2 ⊗ s) (↑-proper x 2 px) (↑-mono y x 2 h)
            (≼_trans (x ↑ 2) middle ((K ⊖ y) ↑ 2 ⊗ s) (mul-pos (↑-proper (K ⊖ x) 2 (mul-pos pK px)) ps) w.square
            (⊗-mono ((K ⊖ x) ↑ 2) ((K ⊖ y) ↑ 2) s (↑-mono (K ⊖ x) (K ⊖ y) 2 more)));
      }

module _ (p : Plane) (w : PlaneWithin p) (x y : Fraction) (px : Proper x) (h : y ≼ x) where
  pub first_falls : AtMostFirst p x → AtMostFirst p y
  first_falls l = ≼_trans (y ↑ 10) (x ↑ 10) (first_to_the_tenth p) (↑-proper x 10 px) (↑-mono y x 10 h) l

  pub second_falls : AtMostSecond p x → AtMostSecond p y
  second_falls =
      wedge_falls (bearing_force p.diameter p.member1) (s_squared p) x y (side_force_positive p w).den
      (s_positive p w).den
      px
      h

  pub third_falls : AtMostThird p x → AtMostThird p y
  third_falls = go (eqb p.planes 1)
    where
      K : Fraction
      K = bearing_force p.diameter p.member2

      go : (b : Bool) → OneOrTwo b (Wedge K (c_squared p) x) (x ≼ K ⊘ whole 2) → OneOrTwo b (Wedge K (c_squared p) y) (y ≼ K ⊘ whole 2)
      go true l = wedge_falls K (c_squared p) x y (other_force_positive p w).den (c_positive p w).den px h l
      go false l = ≼_trans y x (K ⊘ whole 2) px h l

  pub falls : AtMostR p x → AtMostR p y
  falls l = record {
    first = first_falls l.first;
    second = second_falls l.second;
    third = third_falls l.third;
  }
