-- A whole number decides each irrational limit of Table 8 and of Eurocode's edges.
use mathlib.Core.Path.{◌≡◌, refl, sym, ap, ap₂, ◌∙◌}
use mathlib.Core.Bool.{Bool, true, false, ◌&&◌, and-false}
use Prim.Native.Nat.{ℕ, zero, suc, ◌+◌, ◌-◌, ◌*◌, ◌/◌, ◌≤◌, ◌<◌, max}
use native.Mathlib.Nat.{lt_of_not-le, not-le_of_lt, mul-le-mul, mul-le-mul_right, mul-le-mul_left, div-add-mod', mod-lt, le_trans}
use native.Mathlib.Decide.{dec_le}
use native.Mathlib.Omega.{arith}
use borrow.Author.Differences.{ints}
use borrow.Author.Tests.{le-leb, lt-leb, leb-true}
use lib.Dec.{leb, leb-zero}
use lib.IntN.{ℤ, pos, negsuc, nat_abs, ◌-ℤ◌}
use lib.Signed.{le_z}
use mir.Syntax.{w32}
use mir.Val.{to_z, of_z}
use Rattle.wide.proofs.Tests.{same_test}
use Rattle.strength.specs.Roots.{SquareRoot}
use Rattle.spacing.specs.declared.edge.EdgeRule.{EdgeRule}
use Rattle.spacing.specs.declared.edge.EdgeRule.TheVariants.{Table8, Eurocode}
use Rattle.spacing.specs.Spacing.{along_enough, end_passes, edge_passes, square, squared_force, Components}
use Rattle.spacing.specs.Limits.{LeastPart, PairLimit, SideLimit}
use Rattle.spacing.proofs.Integers.{small_read}

module _ (w total q r : ℕ) (force : 0 < total) (root : SquareRoot q r) (low : q * total ≤ w) (high : w < (q + 1) * total) where
  passes : (e : ℕ) → r + 1 ≤ e → suc w ≤ e * e * total
  passes e h =
      let s : q + 1 ≤ e * e = omega (arith, root.high, mul-le-mul h h) in
      omega (arith, high, mul-le-mul_right total s)

  fails : (e : ℕ) → e ≤ r → e * e * total ≤ w
  fails e h = le_trans (mul-le-mul_right total (le_trans (mul-le-mul h h) root.low)) low

  reached : (e : ℕ) → suc w ≤ e * e * total → r + 1 ≤ e
  reached e h = omega (arith, lt_of_not-le (λ (k : e ≤ r). not-le_of_lt h (fails e k)))

  root_decides : (e : ℕ) → leb (suc w) (e * e * total) ≡ leb (r + 1) e
  root_decides e = same_test (reached e) (passes e)

-- the whole root of (whole - 1)/total, and 1 more, is the least e with whole ≤ e² total
pub rounded_up :
    (whole total r : ℕ) → 0 < total → 0 < whole → SquareRoot ((whole - 1) / total) r →
    (e : ℕ) → leb whole (e * e * total) ≡ leb (r + 1) e
rounded_up whole total r f p root e =
    let m = div-add-mod' (whole - 1) total in
    let l = mod-lt (whole - 1) f in
    let s : suc (whole - 1) ≡ whole = omega arith in
    rw s at
    (root_decides (whole - 1) total ((whole - 1) / total) r f root (omega (arith, m)) (omega (arith, m, l)) e)

pub nothing : (whole total : ℕ) → whole ≡ 0 → (e : ℕ) → leb whole (e * e * total) ≡ leb 0 e
nothing whole total p e = rw p (leb-zero (e * e * total) ∙ sym (leb-zero e))

below_square : (r : ℕ) → r ≤ r * r
below_square zero = omega arith
below_square (suc r) = omega arith

-- the root of a fraction that is at most 1
pub least_part_bound : {k part total r : ℕ} → LeastPart k part total r → part ≤ total → r ≤ k
least_part_bound {k} {part} {total} {r} l h =
    leb-true r k (sym (l.decides k) ∙ le-leb _ _ (mul-le-mul_left (k * k) h))

-- the squares of the components of a force
pub record Squares (f g : ℤ) : Type 0 where
  pub x_small : square f ≤ 1000000000000
  pub y_small : square g ≤ 1000000000000
  pub some : 0 < square f + square g

pub squares : {d : ℕ} {f g : ℤ} → Components d f g → Squares f g
squares {d} {f} {g} h = record {
  x_small = mul-le-mul h.x_small h.x_small;
  y_small = mul-le-mul h.y_small h.y_small;
  some = omega (arith, h.some, below_square (nat_abs f), below_square (nat_abs g));
}

-- the least part of squares that are read from a member's view, where the components are within the record's limits
pub part_read :
    {d k p t r : ℕ} (f g h : ℤ) → Components d f g → nat_abs h ≤ 1000000 → p ≡ square (to_z w32 (of_z w32 h)) →
    t ≡ squared_force (to_z w32 (of_z w32 f)) (to_z w32 (of_z w32 g)) → LeastPart k p t r →
    LeastPart k (square h) (squared_force f g) r
part_read f g h c small e w l =
    rw (e ∙ ap square (small_read h small), w ∙ ap₂ squared_force (small_read f c.x_small) (small_read g c.y_small)) at l

-- ---- limits
both : (A r a : ℕ) → leb A a && leb r (a - A) ≡ leb (A + r) a
both A r a = go (dec_le A a)
  where
    go : Dec (A ≤ a) → leb A a && leb r (a - A) ≡ leb (A + r) a
    go (yes p) = rw (le-leb A a p) (same_test (λ (h : r ≤ a - A). omega arith) (λ (h : A + r ≤ a). omega arith))
    go (no p) = rw (lt-leb A a (lt_of_not-le p)) (sym (lt-leb (A + r) a (omega (arith, lt_of_not-le p))))

greatest : (A B n : ℕ) → leb A n && leb B n ≡ leb (max A B) n
greatest A B n = go (dec_le A n)
  where
    go : Dec (A ≤ n) → leb A n && leb B n ≡ leb (max A B) n
    go (yes p) = rw (le-leb A n p) (same_test (λ (h : B ≤ n). omega arith) (λ (h : max A B ≤ n). omega arith))
    go (no p) = rw (lt-leb A n (lt_of_not-le p)) (sym (lt-leb (max A B) n (omega (arith, lt_of_not-le p))))

pub pair_limit : (d part total r : ℕ) → LeastPart (20 * d) part total r → PairLimit d part total (30 * d + r)
unfolding along_enough
pair_limit d part total r l = record {
  decides = λ a. ap (λ t. leb (30 * d) a && t) (l.decides (a - 30 * d)) ∙ both (30 * d) r a;
}

loaded_decides : (A B : ℕ) (z : ℤ) → le_z (pos A) z && le_z (pos B) z ≡ le_z (pos (max A B)) z
loaded_decides A B (pos n) = greatest A B n
loaded_decides A B (negsuc n) = refl

pub loaded_limit : (d part total : ℕ) → d ≤ 30 → SideLimit (end_passes true d part total) (max (70 * d) 800)
unfolding end_passes
loaded_limit d part total t = record { decides = loaded_decides (70 * d) 800; small = omega (arith, t) }

other_decides :
    (k part total r A : ℕ) → LeastPart k part total r → (z : ℤ) →
    leb (k * k * part) (square z * total) && le_z (pos A) z ≡ le_z (pos (max r A)) z
other_decides k part total r A l (pos n) = rw (l.decides n) (greatest r A n)
other_decides k part total r A l (negsuc n) = and-false (leb (k * k * part) (square (negsuc n) * total))

pub other_limit :
    (d part total r : ℕ) → d ≤ 30 → part ≤ total → LeastPart (70 * d) part total r →
    SideLimit (end_passes false d part total) (max r (30 * d))
unfolding end_passes
other_limit d part total r t p l = record {
  decides = other_decides (70 * d) part total r (30 * d) l;
  small = omega (arith, t, least_part_bound l p);
}

-- an edge that asks 3d alone
pub table8_edge : (loaded : Bool) (d part total : ℕ) → d ≤ 30 → SideLimit (edge_passes Table8 loaded d part total) (30 * d)
unfolding edge_passes
table8_edge loaded d part total t = record { decides = λ z. refl; small = omega (arith, t) }

pub plain_edge : (rule : EdgeRule) (d part total : ℕ) → d ≤ 30 → SideLimit (edge_passes rule false d part total) (30 * d)
unfolding edge_passes
plain_edge Table8 d part total t = table8_edge false d part total t
plain_edge Eurocode d part total t = record { decides = λ z. refl; small = omega (arith, t) }

-- A and the root more: n - A is not negative, and its square is the square of the difference
more : (k part total r A n : ℕ) → LeastPart k part total r →
    leb A n && leb (k * k * part) (square (pos n -ℤ pos A) * total) ≡ leb (A + r) n
more k part total r A n l = go (dec_le A n)
  where
    go : Dec (A ≤ n) → leb A n && leb (k * k * part) (square (pos n -ℤ pos A) * total) ≡ leb (A + r) n
    go (yes p) =
        let e : nat_abs (pos n -ℤ pos A) ≡ n - A = omega (arith, ints, p) in
        rw e (ap (λ t. leb A n && t) (l.decides (n - A)) ∙ both A r n)
    go (no p) = rw (lt-leb A n (lt_of_not-le p)) (sym (lt-leb (A + r) n (omega (arith, lt_of_not-le p))))

edge_decides :
    (k part total r A B : ℕ) → LeastPart k part total r → (z : ℤ) →
    le_z (pos A) z && leb (k * k * part) (square (z -ℤ pos A) * total) && le_z (pos B) z ≡ le_z (pos (max (A + r) B)) z
edge_decides k part total r A B l (pos n) = ap (λ t. t && leb B n) (more k part total r A n l) ∙ greatest (A + r) B n
edge_decides k part total r A B l (negsuc n) = refl

pub loaded_edge :
    (d part total r : ℕ) → d ≤ 30 → part ≤ total → LeastPart (20 * d) part total r →
    SideLimit (edge_passes Eurocode true d part total) (max (20 * d + r) (30 * d))
unfolding edge_passes
loaded_edge d part total r t p l = record {
  decides = edge_decides (20 * d) part total r (20 * d) (30 * d) l;
  small = omega (arith, t, least_part_bound l p);
}
