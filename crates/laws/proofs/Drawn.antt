-- The same joint drawn otherwise gets the same verdict, refusal number, member, capacity, share and use (02, A8).
use Prim.Native.Nat.{ℕ, ◌+◌, ◌*◌}
use mathlib.Core.Path.{◌≡◌, refl, sym, ap, ap₂, ◌∙◌}
use mathlib.Core.Bool.{Bool, true, false, cond, true≢false}
use mathlib.Core.List.{List}
use native.Mathlib.Decide.{ℕ_discrete}
use native.Mathlib.Omega.{arith}
use lib.Dec.{eqb}
use lib.IntN.{ℤ, nat_abs}
use Rattle.tables.specs.declared.Source.{Source}
use Rattle.tables.specs.Tests as all_numbered
use Rattle.tables.specs.Tests.{first_holding}
use Rattle.tables.specs.Table.{Table, Loaded, Right, table_of}
use Rattle.tables.proofs.Loading.{right}
use Rattle.spacing.specs.declared.edge.EdgeRule.{EdgeRule}
use Rattle.spacing.specs.declared.view.Frame.{Frame}
use Rattle.spacing.specs.declared.view.Which.{Which}
use Rattle.spacing.specs.declared.view.Which.TheVariants.{Member1, Member2}
use Rattle.spacing.specs.Spacing.{along, across, force_in, frame_of, squared_force}
use Rattle.spacing.specs.Verdict.{number_of, member_verdict, spacing_verdict}
use Rattle.group.specs.Rows.{RowsGiven, reach_of}
use Rattle.group.specs.Share.{member_share}
use Rattle.joint.specs.declared.Outline.{Outline}
use Rattle.joint.specs.declared.Member.{Member}
use Rattle.joint.specs.declared.Values.{Values}
use Rattle.joint.specs.Answer.{Report}
use Rattle.joint.specs.Layout.{values_of}
use Rattle.joint.specs.Refusal.{spaced, edge_rule, record_tests, drill_fault}
use Rattle.joint.specs.DesignOf.{force_along, plane_in}
use Rattle.joint.specs.Returned.{answered, unanswered, report_of}
use Rattle.joint.proofs.Holding.{no_number}
use Rattle.joint.proofs.Accepted.{fields_hold}
use Rattle.joint.proofs.Claims.{report_not_loaded}
use Rattle.laws.specs.Drawn.{Change, there, back, OnAxis, on_x, on_y, force_after, outline_after, member_after, loads_after, After}
use Rattle.laws.specs.Drawn.{DrawnOtherwise, Passes, Redrawn, SameAnswer, DrawnAlike, EqualAlike}
use Rattle.laws.specs.Drawn.OnAxis.{kept, shifted, negated}
use Rattle.laws.specs.Drawn.Redrawn.{as_drawn, then}
use Rattle.laws.proofs.Axes.{Axis, lengthwise, crosswise, Carried, same_size}
use Rattle.laws.proofs.Rows.{share_same}
use Rattle.laws.proofs.Plans.{Like, after}
use Rattle.laws.proofs.Views.{as_far, view_like}
use Rattle.laws.proofs.Reports.{by_values, report_is}

-- the force in member 1 is turned round, whatever the drawing
force_kept : (which : Which) (o : OnAxis) (f : ℤ) → force_in which (force_after o f) ≡ force_after o (force_in which f)
force_kept Member1 kept f = refl
force_kept Member1 (shifted k) f = refl
force_kept Member1 negated f = refl
force_kept Member2 o f = refl

-- a member's axis in the direction of x, and in that of y
abbrev x_axis : Which → Outline → ℤ → List ℤ → Axis
x_axis which o fx x = record { low = o.x0; high = o.x1; force = force_in which fx; places = x }

abbrev y_axis : Which → Outline → ℤ → List ℤ → Axis
y_axis which o fy y = record { low = o.y0; high = o.y1; force = force_in which fy; places = y }

-- w is v after the change c
module _ (c : Change) (v w : Values) (a : After c v w) where
  abbrev n : ℕ
  n = v.positions.n

  abbrev fx : ℤ
  fx = v.loads.fx

  abbrev fx' : ℤ
  fx' = force_after (on_x c) fx

  abbrev fy : ℤ
  fy = v.loads.fy

  abbrev fy' : ℤ
  fy' = force_after (on_y c) fy

  total_same : squared_force fx' fy' ≡ squared_force fx fy
  total_same = ap₂ (λ p q. p * p + q * q) (same_size (on_x c) fx) (same_size (on_y c) fy)

  -- ---- a member
  module _ (m : Member) where
    along_same : force_along (loads_after c v.loads) (member_after c m) ≡ force_along v.loads m
    along_same = go (eqb m.grain 0)
      where
        go : (b : Bool) → nat_abs (cond b fx' fy') ≡ nat_abs (cond b fx fy)
        go true = same_size (on_x c) fx
        go false = same_size (on_y c) fy

    module _ (which : Which) where
      abbrev first : Frame
      first = frame_of which (spaced m) fx fy

      abbrev second : Frame
      second = frame_of which (spaced (member_after c m)) fx' fy'

      -- what the change does along, and across: to x and y, or to y and x
      abbrev lengthwise_by : OnAxis
      lengthwise_by = along m.grain (on_x c) (on_y c)

      abbrev crosswise_by : OnAxis
      crosswise_by = across m.grain (on_x c) (on_y c)

      abbrev AxesCarried : Type 0
      AxesCarried =
          Carried n (there c) lengthwise_by (lengthwise first (along m.grain v.positions.x v.positions.y))
          (lengthwise second (along m.grain w.positions.x w.positions.y))
          × Carried n (there c) crosswise_by (crosswise first (across m.grain v.positions.x v.positions.y))
          (crosswise second (across m.grain w.positions.x w.positions.y))

      axes : AxesCarried
      axes = go (eqb m.grain 0) refl
        where
          x : Carried n (there c) (on_x c) (x_axis which m.outline fx v.positions.x) (x_axis which (outline_after c m.outline) fx' w.positions.x)
          x = record { low = refl; high = refl; force = force_kept which (on_x c) fx; places = a.x }

          y : Carried n (there c) (on_y c) (y_axis which m.outline fy v.positions.y) (y_axis which (outline_after c m.outline) fy' w.positions.y)
          y = record { low = refl; high = refl; force = force_kept which (on_y c) fy; places = a.y }

          go : (b : Bool) → eqb m.grain 0 ≡ b → AxesCarried
          go true e = rw e (x, y)
          go false e = rw e (y, x)

      member_like : (rule : EdgeRule) (d : ℕ) →
          Like (member_verdict rule which (spaced m) d fx fy v.positions.x v.positions.y n)
          (member_verdict rule which (spaced (member_after c m)) d fx' fy' w.positions.x w.positions.y n)
      unfolding member_verdict
      member_like rule d =
          view_like n (there c) (back c) a.order first second _ _ _ _ lengthwise_by crosswise_by axes.0 axes.1 rule (number_of which) d

      share_kept : (d reach : ℕ) → RowsGiven d reach n →
          member_share d reach (along m.grain w.positions.x w.positions.y) (across m.grain w.positions.x w.positions.y) n
          ≡ member_share d reach (along m.grain v.positions.x v.positions.y) (across m.grain v.positions.x v.positions.y) n
      share_kept d reach g =
          share_same d n reach g _ _ _ _ (as_far n (there c) (back c) a.order first second _ _ _ _ lengthwise_by crosswise_by axes.0 axes.1)

  -- ---- the joint
  plan_like : Like (drill_fault v) (drill_fault w)
  unfolding drill_fault spacing_verdict
  plan_like =
      rw (a.version, a.members, a.dowel, a.number, a.loads)
      (after _ _ _ _ (member_like v.members.member1 Member1 (edge_rule v.version) v.dowel.diameter)
      (member_like v.members.member2 Member2 (edge_rule v.version) v.dowel.diameter))

  answer_same : (t : Table) → RowsGiven v.dowel.diameter (reach_of v.dowel.diameter) v.positions.n → answered t w ≡ answered t v
  unfolding answered plane_in
  answer_same t g =
      let s1 = share_kept v.members.member1 Member1 v.dowel.diameter (reach_of v.dowel.diameter) g in
      let s2 = share_kept v.members.member2 Member2 v.dowel.diameter (reach_of v.dowel.diameter) g in
      rw (a.members, a.dowel, a.number, a.loads, total_same, along_same v.members.member1, along_same v.members.member2, s1, s2)
      (refl {a = answered t v})

-- ---- the reports
same_report : {r q : Report} → q ≡ r → SameAnswer r q
same_report e = record {
  verdict = ap (λ (z : Report). z.verdict) e;
  number = ap (λ (z : Report). z.number) e;
  member = ap (λ (z : Report). z.member) e;
  usage = ap (λ (z : Report). z.usage) e;
  capacity = ap (λ (z : Report). z.capacity) e;
  share = ap (λ (z : Report). z.share) e;
}

chained : {r q z : Report} → SameAnswer r q → SameAnswer q z → SameAnswer r z
chained f g = record {
  verdict = g.verdict ∙ f.verdict;
  number = g.number ∙ f.number;
  member = g.member ∙ f.member;
  usage = g.usage ∙ f.usage;
  capacity = g.capacity ∙ f.capacity;
  share = g.share ∙ f.share;
}

either_way : (t : Table) (v w : Values) → Like (drill_fault v) (drill_fault w) → answered t w ≡ answered t v → SameAnswer (by_values t v) (by_values t w)
unfolding unanswered
either_way t v w h e = go (eqb (drill_fault v).number 0) (eqb (drill_fault w).number 0) (ap (λ z. eqb z 0) h.number)
  where
    go : (a b : Bool) → b ≡ a → SameAnswer (cond a (answered t v) (unanswered (drill_fault v))) (cond b (answered t w) (unanswered (drill_fault w)))
    go true true _ = same_report e
    go false false _ = record { verdict = refl; number = h.number; member = h.member; usage = refl; capacity = refl; share = refl }
    go true false d = absurd (true≢false (sym d))
    go false true d = absurd (true≢false d)

module _ (t : Table) (k : Right t) where
  rows_given : (s : List ℕ) → Passes t s → RowsGiven (values_of s).dowel.diameter (reach_of (values_of s).dowel.diameter) (values_of s).positions.n
  unfolding all_numbered.numbered
  rows_given s p =
      let f = fields_hold t (values_of s) ((no_number (record_tests t s) refl p).none 6) in
      record { thick = f.diameter_high; reaches = omega (arith, f.diameter_low); some = f.dowels_low; most = f.dowels_high }

  -- by a table that did not load every record gets one report
  not_loaded : (s u : List ℕ) → (Loaded t → ⊥) → report_of t u ≡ report_of t s
  not_loaded s u f = report_not_loaded t u f ∙ sym (report_not_loaded t s f)

  one_change : (s u : List ℕ) → Passes t s → Passes t u → DrawnOtherwise (values_of s) (values_of u) → SameAnswer (report_of t s) (report_of t u)
  one_change s u p q d = go (ℕ_discrete (first_holding t.tests) 0)
    where
      go : Dec (Loaded t) → SameAnswer (report_of t s) (report_of t u)
      go (yes l) =
          rw (report_is t k l s p, report_is t k l u q)
          (either_way t (values_of s) (values_of u) (plan_like d.0 (values_of s) (values_of u) d.1)
          (answer_same d.0 (values_of s) (values_of u) d.1 t (rows_given s p)))
      go (no f) = same_report (not_loaded s u f)

  last_passes : {s u : List ℕ} → Passes t s → Redrawn t s u → Passes t u
  last_passes p as_drawn = p
  last_passes p (then m _ r q d) = q

  pub reports_alike : (s u : List ℕ) → Passes t s → Redrawn t s u → SameAnswer (report_of t s) (report_of t u)
  reports_alike s _ p as_drawn = same_report refl
  reports_alike s u p (then m _ r q d) = chained (reports_alike s m p r) (one_change m u (last_passes p r) q d)

  pub reports_equal : (s u : List ℕ) → Passes t s → Passes t u → values_of u ≡ values_of s → report_of t u ≡ report_of t s
  reports_equal s u p q e = go (ℕ_discrete (first_holding t.tests) 0)
    where
      go : Dec (Loaded t) → report_of t u ≡ report_of t s
      go (yes l) = report_is t k l u q ∙ ap (by_values t) e ∙ sym (report_is t k l s p)
      go (no f) = not_loaded s u f

  -- what is returned
  pub drawn_alike : (s u : List ℕ) → DrawnAlike t s u
  drawn_alike s u p d r q a b = rw (a.is, b.is) (reports_alike s u p d)

  pub equal_alike : (s u : List ℕ) → EqualAlike t s u
  equal_alike s u p q e r z a b = b.is ∙ reports_equal s u p q e ∙ sym a.is

-- by every table that a call can name
pub drawn_alike_by : (source : Source) (s u : List ℕ) → DrawnAlike (table_of source) s u
drawn_alike_by source = drawn_alike (table_of source) (right source)

pub equal_alike_by : (source : Source) (s u : List ℕ) → EqualAlike (table_of source) s u
equal_alike_by source = equal_alike (table_of source) (right source)
