-- Within the ranges no denominator of the formulas is 0, and each fraction of 01 is a ratio of the whole numbers worked with.
use Rattle.std.proofs.Common.{◌≡◌, ℕ, ◌+◌, ◌-◌, ◌*◌, ◌<◌, ◌≤◌, refl, ap, mul-le-mul_right, mul-pos, arith, lit<}
use Rattle.strength.specs.declared.plane.Timber.{Timber}
use Rattle.strength.specs.declared.plane.Plane.{Plane}
use Rattle.strength.specs.Fraction.{Fraction, ◌over◌, whole, ◌⊕◌, ◌⊗◌, ◌⊘◌, ◌≈◌}
use Rattle.strength.specs.Shear.{bearing, f1, f2, s_squared, c_squared, bearing_force, first_to_the_tenth, MemberWithin, PlaneWithin}
use Rattle.strength.specs.Working.{bearing_num, bearing_den}
use Rattle.strength.proofs.Ratios.{
  Positive,
  ⊕-positive,
  ⊗-positive,
  ⊘-positive,
  ↑-positive,
  ≈-trans,
  ⊕-≈,
  ⊗-≈,
  ⊘-≈,
}

pub lit_positive : (n d : ℕ) → 0 < n → 0 < d → Positive (n over d)
lit_positive n d hn hd = record { num = hn; den = hd }

-- k90 sin²α + cos²α is above 0
divisor_positive : (k a b T : ℕ) → 0 < k → 0 < T → a + b ≡ T → 0 < k * b * T + a * (1000 * T)
divisor_positive k a b T hk hT e = omega (arith, mul-pos hT hT, mul-le-mul_right (b * T) hk, ap (λ (z : ℕ). z * T) e)

pub bearing_positive : (d : ℕ) (m : Timber) → d ≤ 30 → MemberWithin m → Positive (bearing d m)
unfolding bearing
bearing_positive d m hd w =
    let rest : 0 < 100 - d = omega arith in
    let parts : m.along + (m.total - m.along) ≡ m.total = omega arith in
    record {
      num =
          mul-pos (mul-pos (mul-pos {m = 82} (lit< tt) rest) (omega arith))
          (mul-pos (mul-pos {m = 1000} (lit< tt) w.force) w.force);
      den =
          mul-pos {m = 100000} (lit< tt)
          (divisor_positive m.k90 m.along (m.total - m.along) m.total (omega arith) w.force parts);
    }

ratio : (e ρ T k b a : ℕ) →
    (82 over 1000 ⊗ (e over 100) ⊗ whole ρ ⊘ (k over 1000 ⊗ (b over T) ⊕ (a over T)))
    ≈ ((82 * e * (ρ * T)) over (100 * (k * b + 1000 * a)))
ratio e ρ T k b a = omega arith

-- f = 82 (100 - d) bearing_num / (100 bearing_den)
pub bearing_is : (d : ℕ) (m : Timber) → bearing d m ≈ ((82 * (100 - d) * bearing_num m) over (100 * bearing_den m))
unfolding bearing
bearing_is d m = ratio (100 - d) m.density m.total m.k90 (m.total - m.along) m.along

-- a bearing strength as a ratio
abbrev pub F : ℕ → ℕ → ℕ → Fraction
F κ n D = (κ * n) over (100 * D)

-- what is made of f1 = a and f2 = b that are such ratios
module _ (a b : Fraction) (κ n1 D1 n2 D2 : ℕ) (pa : Positive (F κ n1 D1)) (pb : Positive (F κ n2 D2))
    (ea : a ≈ F κ n1 D1) (eb : b ≈ F κ n2 D2) where
  sum-≈ : (a ⊕ b) ≈ (F κ n1 D1 ⊕ F κ n2 D2)
  sum-≈ = ⊕-≈ a (F κ n1 D1) b (F κ n2 D2) ea eb

  pub joined-≈ : (d : ℕ) → 0 < d → (whole d ⊗ a ⊗ b ⊘ (a ⊕ b)) ≈ ((κ * d * (n1 * n2)) over (100 * (n1 * D2 + n2 * D1)))
  joined-≈ d pd =
      ≈-trans (whole d ⊗ a ⊗ b ⊘ (a ⊕ b)) (whole d ⊗ F κ n1 D1 ⊗ F κ n2 D2 ⊘ (F κ n1 D1 ⊕ F κ n2 D2))
      ((κ * d * (n1 * n2)) over (100 * (n1 * D2 + n2 * D1)))
      (⊘-positive (⊗-positive (⊗-positive (lit_positive d 1 pd (lit< tt)) pa) pb) (⊕-positive pa pb)).den
      (⊘-≈ (whole d ⊗ a ⊗ b) (whole d ⊗ F κ n1 D1 ⊗ F κ n2 D2) (a ⊕ b) (F κ n1 D1 ⊕ F κ n2 D2)
      (⊗-≈ (whole d ⊗ a) (whole d ⊗ F κ n1 D1) b (F κ n2 D2) (⊗-≈ (whole d) (whole d) a (F κ n1 D1) refl ea) eb)
      sum-≈)
      (omega arith)

  pub s-≈ : (b ⊘ (a ⊕ b)) ≈ ((n2 * D1) over (n1 * D2 + n2 * D1))
  s-≈ =
      ≈-trans (b ⊘ (a ⊕ b)) (F κ n2 D2 ⊘ (F κ n1 D1 ⊕ F κ n2 D2)) ((n2 * D1) over (n1 * D2 + n2 * D1))
      (⊘-positive pb (⊕-positive pa pb)).den
      (⊘-≈ b (F κ n2 D2) (a ⊕ b) (F κ n1 D1 ⊕ F κ n2 D2) eb sum-≈)
      (omega arith)

  pub c-≈ : (a ⊘ (a ⊕ b)) ≈ ((n1 * D2) over (n1 * D2 + n2 * D1))
  c-≈ =
      ≈-trans (a ⊘ (a ⊕ b)) (F κ n1 D1 ⊘ (F κ n1 D1 ⊕ F κ n2 D2)) ((n1 * D2) over (n1 * D2 + n2 * D1))
      (⊘-positive pa (⊕-positive pa pb)).den
      (⊘-≈ a (F κ n1 D1) (a ⊕ b) (F κ n1 D1 ⊕ F κ n2 D2) ea sum-≈)
      (omega arith)

pub force-≈ : (a : Fraction) (κ n D d t : ℕ) → 0 < D → a ≈ F κ n D → (a ⊗ whole d ⊗ (t over 10)) ≈ ((κ * d * t * n) over (1000 * D))
force-≈ a κ n D d t pD e =
    ≈-trans (a ⊗ whole d ⊗ (t over 10)) (F κ n D ⊗ whole d ⊗ (t over 10)) ((κ * d * t * n) over (1000 * D))
    (omega arith)
    (⊗-≈ (a ⊗ whole d) (F κ n D ⊗ whole d) (t over 10) (t over 10) (⊗-≈ a (F κ n D) (whole d) (whole d) e refl) refl)
    (omega arith)

-- No denominator of the formulas is 0: each fraction is above 0, numerator and denominator.
module _ (p : Plane) (w : PlaneWithin p) where
  pub f1_positive : Positive (f1 p)
  f1_positive = bearing_positive p.diameter p.member1 w.dowel.diameter_high w.member1

  pub f2_positive : Positive (f2 p)
  f2_positive = bearing_positive p.diameter p.member2 w.dowel.diameter_high w.member2

  pub s_positive : Positive (s_squared p)
  s_positive = ⊘-positive f2_positive (⊕-positive f1_positive f2_positive)

  pub c_positive : Positive (c_squared p)
  c_positive = ⊘-positive f1_positive (⊕-positive f1_positive f2_positive)

  diameter_positive : Positive (whole p.diameter)
  diameter_positive = lit_positive p.diameter 1 (omega arith) (lit< tt)

  pub side_force_positive : Positive (bearing_force p.diameter p.member1)
  side_force_positive =
      ⊗-positive (⊗-positive f1_positive diameter_positive)
      (lit_positive p.member1.thickness 10 (omega (arith, w.member1.thickness_low)) (lit< tt))

  pub other_force_positive : Positive (bearing_force p.diameter p.member2)
  other_force_positive =
      ⊗-positive (⊗-positive f2_positive diameter_positive)
      (lit_positive p.member2.thickness 10 (omega (arith, w.member2.thickness_low)) (lit< tt))

  pub first_positive : Positive (first_to_the_tenth p)
  first_positive =
      ⊗-positive
      (⊗-positive
      (⊗-positive (↑-positive 10 (lit_positive 23 10 (lit< tt) (lit< tt)))
      (↑-positive 5
      (⊘-positive (⊗-positive (⊗-positive diameter_positive f1_positive) f2_positive)
      (⊕-positive f1_positive f2_positive))))
      (↑-positive 5 (⊗-positive (lit_positive 3 10 (lit< tt) (lit< tt)) (lit_positive p.steel 1 (omega (arith, w.dowel.steel_low)) (lit< tt)))))
      (↑-positive 13 diameter_positive)
