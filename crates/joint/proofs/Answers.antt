-- The figures of an accepted record lie in their brackets.
use Prim.Native.Nat.{ℕ, ◌+◌, ◌*◌, ◌≤◌, ◌<◌, min}
use mathlib.Core.Path.{◌≡◌, refl}
use mathlib.Core.Bool.{Bool, true, false, cond}
use mathlib.Core.Logic.{inl, inr}
use native.Mathlib.Omega.{arith}
use native.Mathlib.Decide.{dec_le}
use native.Mathlib.Nat.{le_trans, le_of_lt, lt_of_not-le, min-eq_left, min-eq_right, mul-pos, mul-le-mul_right}
use lib.Dec.{eqb, lit<, lit≤}
use Rattle.strength.specs.Fraction.{Fraction, ◌over◌, whole, ◌≼◌, Proper}
use Rattle.strength.specs.Shear.{AtMostR, AboveR, PlaneWithin}
use Rattle.strength.proofs.Capacities.{capacity_low, capacity_high, newtons_low, newtons_high}
use Rattle.strength.proofs.Falling.{falls}
use Rattle.strength.proofs.Floors.{capacity_floor}
use Rattle.strength.proofs.Most.{at_most_meganewtons}
use Rattle.spacing.specs.declared.view.Which.{Which}
use Rattle.spacing.specs.declared.view.Which.TheVariants.{Member1, Member2}
use Rattle.spacing.specs.Spacing.{frame_of}
use Rattle.spacing.proofs.Laws.{spacing_says}
use Rattle.spacing.proofs.Passing.{joint_apart, Apart}
use Rattle.group.specs.Rows.{reach_of, share_over, EveryRow, MemberBracket, RowsGiven}
use Rattle.group.proofs.Bracket.{share_bracket, share_top}
use Rattle.group.proofs.Effective.{not_above_not_below, above_not_below, not_above_falls}
use Rattle.group.proofs.Floor.{share_from}
use Rattle.group.proofs.RowLaws.{row_some}
use Rattle.tables.specs.Table.{Table}
use Rattle.joint.specs.declared.Member.{Member}
use Rattle.joint.specs.declared.Values.{Values}
use Rattle.group.specs.declared.member.Taken.{Taken}
use Rattle.joint.specs.Refusal.{drill_fault, spaced}
use Rattle.joint.specs.Design.{Design}
use Rattle.joint.specs.DesignOf.{counted_planes, carrier_of, design_of}
use Rattle.joint.specs.Use.{Above0, RowsEnough, UseBracket, ShareBracket, Answered}
use Rattle.joint.specs.Returned.{Demand, member_taken, twice_planes, demand_of, use_of, row_use_of, RowWithin, DemandWithin, answered, Passed}
use Rattle.joint.proofs.EnoughLaws.{Sound}
use Rattle.joint.proofs.Uses.{force_below, force_below_lem, force_enough, rows_enough, RowPasses, use_within, use_positive, u_row1, u_row2}
use Rattle.joint.proofs.Within.{total_low, total_small, along_small, plane_within, check_within}

-- T is half of the code's 2T, and above 0
counted_twice : (n p : ℕ) → 2 * (counted_planes n p).num ≡ twice_planes n p * (counted_planes n p).den
counted_twice n p = go (eqb n 1)
  where
    go : (b : Bool) → 2 * (cond b (p over 2) (whole (n * p))).num ≡ cond b p (2 * (n * p)) * (cond b (p over 2) (whole (n * p))).den
    go true = omega arith
    go false = omega arith

counted_above0 : (n p : ℕ) → 0 < n → 0 < p → Above0 (counted_planes n p)
counted_above0 n p pn pp = go (eqb n 1)
  where
    go : (b : Bool) → Above0 (cond b (p over 2) (whole (n * p)))
    go true = record { num = pp; den = lit< tt }
    go false = record { num = mul-pos pn pp; den = lit< tt }

-- a lesser share is not above in every row either
every_less : (row : ℕ → ℕ → Type 0) (d e f : ℕ) → f ≤ e → EveryRow row d e → EveryRow row d f
every_less row d e f h q n a1 is =
    not_above_falls d n a1 (share_over f n) (share_over e n) (lit< tt) (omega (arith, mul-le-mul_right n h)) (q n a1 is)

module _ (t : Table) (v : Values) (p : Passed t v) where
  abbrev j : Design
  j = design_of t v

  abbrev d : Demand
  d = demand_of t v

  abbrev R : Fraction → Type 0
  R = AtMostR j.plane

  pub plane : PlaneWithin j.plane
  plane = plane_within t v p.fields p.given.force p.sound

  pub above : AboveR j.plane ((d.capacity + 2) over 1000)
  above = capacity_high j.plane plane

  -- ---- the share of a member
  abbrev of : Member → Taken
  of m = member_taken m v.dowel v.loads v.positions

  given : RowsGiven v.dowel.diameter (reach_of v.dowel.diameter) v.positions.n
  given = record {
    thick = p.fields.diameter_high;
    reaches = omega (arith, p.fields.diameter_low);
    some = p.fields.dowels_low;
    most = p.fields.dowels_high;
  }

  bracket : (m : Member) → MemberBracket (carrier_of v m).row j.diameter (of m).share
  bracket m = share_bracket v.dowel.diameter (reach_of v.dowel.diameter) _ _ v.positions.n given

  abbrev ApartIn : Which → Member → Type 0
  ApartIn k m =
      Apart k (spaced m) v.dowel.diameter v.loads.fx v.loads.fy v.positions.x v.positions.y v.positions.n

  apart : ApartIn Member1 v.members.member1 × ApartIn Member2 v.members.member2
  unfolding drill_fault
  apart = joint_apart (drill_fault v) (spacing_says _ _ _ _ _ _ _ _ _) p.drill

  row_within : (k : Which) (m : Member) → ApartIn k m → RowWithin (of m)
  row_within k m a = record {
    along_high = along_small t v p.fields p.given.force m;
    share_low =
        le_trans (lit≤ tt)
        (share_from (frame_of k (spaced m) v.loads.fx v.loads.fy) v.dowel.diameter (reach_of v.dowel.diameter) _ _
        v.positions.n p.fields.diameter_high (omega arith) p.fields.dowels_high a);
    share_high = share_top v.dowel.diameter (reach_of v.dowel.diameter) _ _ v.positions.n given;
  }

  pub within : DemandWithin d
  within = record {
    total_low = total_low t v p.fields p.given.force;
    total_high = total_small t v p.fields p.given.force;
    row1 = row_within Member1 v.members.member1 apart.0;
    row2 = row_within Member2 v.members.member2 apart.1;
    check =
        check_within t v p.fields p.given.force d.capacity (capacity_floor j.plane plane)
        (at_most_meganewtons j.plane plane d.capacity (capacity_low j.plane plane));
  }

  pub sound : Sound j
  sound = record {
    plane = plane;
    counted = counted_above0 v.positions.n v.members.planes p.fields.dowels_low p.fields.planes_low;
    diameter = omega (arith, p.fields.diameter_low);
    kmod = omega (arith, within.check.kmod_low);
  }

  -- ---- the use
  drops : (x y : Fraction) → Proper x → y ≼ x → R x → R y
  drops = falls j.plane plane

  twice : 2 * j.counted.num ≡ d.planes2 * j.counted.den
  twice = counted_twice v.positions.n v.members.planes

  rows : (m : Member) → RowWithin (of m) → row_use_of d (of m) ≤ use_of d → RowsEnough j (use_of d over 10000) (carrier_of v m)
  rows m r h n a1 is e pe b =
      let l = not_above_not_below j.diameter n a1 (share_over (of m).share n) e sound.diameter ((bracket m).every n a1 is) b in
      rows_enough d within R drops (capacity_low j.plane plane) above j.counted twice (of m) r h n e (omega (arith, l))

  -- a v that is enough passes in some row at 2 more than the share, which is above the effective number
  passes : (u : Fraction) → (m : Member) → RowsEnough j u (carrier_of v m) → RowPasses R j.counted j.kmod u (of m)
  passes u m h =
      let s = (bracket m).some in
      let e = share_over ((of m).share + 2) s.n in
      let pn : 0 < s.n = row_some _ _ v.positions.n _ s.n s.a1 p.fields.dowels_low s.is in
      let pe : Above0 e = record { num = mul-pos (omega arith) pn; den = lit< tt } in
      (s.n, pn, h s.n s.a1 s.is e pe (above_not_below j.diameter s.n s.a1 e s.above))

  used : UseBracket j (use_of d)
  used = record {
    enough = record {
      above0 = record { num = use_positive d within; den = lit< tt };
      total = force_enough d within R drops (capacity_low j.plane plane) above j.counted twice;
      rows = (
        rows v.members.member1 within.row1 (u_row1 d within),
        (rows v.members.member2 within.row2 (u_row2 d within), tt),
      );
    };
    least = λ u e.
        use_within d within R drops (capacity_low j.plane plane) above j.counted twice sound.counted u e.above0
        (e.total (force_below d.total over 1024) (lit< tt) (force_below_lem d within))
        (passes u v.members.member1 e.rows.0)
        (passes u v.members.member2 e.rows.1.0);
  }

  -- ---- the capacity in newtons, and the lesser share
  shared : ShareBracket j (min d.member1.share d.member2.share)
  shared = go (dec_le d.member1.share d.member2.share)
    where
      first : MemberBracket (carrier_of v v.members.member1).row j.diameter d.member1.share
      first = bracket v.members.member1

      second : MemberBracket (carrier_of v v.members.member2).row j.diameter d.member2.share
      second = bracket v.members.member2

      go : Dec (d.member1.share ≤ d.member2.share) → ShareBracket j (min d.member1.share d.member2.share)
      go (yes h) =
          rw (min-eq_left h)
          (record { every = (first.every, (every_less _ j.diameter _ _ h second.every, tt)); some = inl first.some })
      go (no h) =
          let l = le_of_lt (lt_of_not-le h) in
          rw (min-eq_right l)
          (record { every = (every_less _ j.diameter _ _ l first.every, (second.every, tt)); some = inr (inl second.some) })

  pub answers : Answered j (answered t v)
  unfolding answered
  answers = record {
    capacity = record { low = newtons_low j.plane plane; high = newtons_high j.plane plane };
    share = shared;
    usage = used;
    verdict = refl;
  }
