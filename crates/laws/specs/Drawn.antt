-- The same joint drawn otherwise (02, A8): when the values of one record are those of another in another drawing, and what of the reports is then
-- the same.
use Rattle.std.specs.Prelude.{ℕ, ◌<◌, ◌≡◌, List, ℤ, neg_ℤ, ◌+ℤ◌}
use Rattle.tables.specs.Tests.{first_holding}
use Rattle.tables.specs.Table.{Table}
use Rattle.spacing.specs.Spacing.{place}
use Rattle.group.specs.Order.{Relisting}
use Rattle.joint.specs.declared.Outline.{Outline}
use Rattle.joint.specs.declared.Member.{Member}
use Rattle.joint.specs.declared.Members.{Members}
use Rattle.joint.specs.declared.Loads.{Loads}
use Rattle.joint.specs.declared.Values.{Values}
use Rattle.joint.specs.Answer.{Report}
use Rattle.joint.specs.Layout.{values_of}
use Rattle.joint.specs.Refusal.{record_tests}
use Rattle.joint.specs.Claim.{Reported}

-- ---- 'the second made from the first'
-- 'by listing the dowels in another order': dowel i of the second, counted from 0, is dowel `to i` of the first, and `from` leads back; 'by adding
-- one offset to all x and one to all y'; 'by mirroring coordinates and force in x', where every x changes its sign, 'or in y'
pub data Change : Type 0 where
  relisted : (to from : ℕ → ℕ) → Change
  moved : (dx dy : ℤ) → Change
  mirrored_x : Change
  mirrored_y : Change

-- which dowel of the first is dowel i of the second, and back: except in another order each keeps its number
abbrev pub there : Change → ℕ → ℕ
there (relisted to from) i = to i
there (moved dx dy) i = i
there mirrored_x i = i
there mirrored_y i = i

abbrev pub back : Change → ℕ → ℕ
back (relisted to from) i = from i
back (moved dx dy) i = i
back mirrored_x i = i
back mirrored_y i = i

-- what a change does to the numbers of one axis, of x or of y
pub data OnAxis : Type 0 where
  kept : OnAxis
  shifted : ℤ → OnAxis
  negated : OnAxis

abbrev pub on_x : Change → OnAxis
on_x (relisted to from) = kept
on_x (moved dx dy) = shifted dx
on_x mirrored_x = negated
on_x mirrored_y = kept

abbrev pub on_y : Change → OnAxis
on_y (relisted to from) = kept
on_y (moved dx dy) = shifted dy
on_y mirrored_x = kept
on_y mirrored_y = negated

-- to a dowel's coordinate
abbrev pub place_after : OnAxis → ℤ → ℤ
place_after kept z = z
place_after (shifted k) z = z +ℤ k
place_after negated z = neg_ℤ z

-- to the lower and the upper limit of an outline: 'A mirrored pair of outline limits is exchanged, the lower first'
abbrev pub low_after : OnAxis → ℤ → ℤ → ℤ
low_after kept low high = low
low_after (shifted k) low high = low +ℤ k
low_after negated low high = neg_ℤ high

abbrev pub high_after : OnAxis → ℤ → ℤ → ℤ
high_after kept low high = high
high_after (shifted k) low high = high +ℤ k
high_after negated low high = neg_ℤ low

-- to a component of the force: 'mirroring coordinates and force'; a move leaves it
abbrev pub force_after : OnAxis → ℤ → ℤ
force_after kept f = f
force_after (shifted k) f = f
force_after negated f = neg_ℤ f

abbrev pub outline_after : Change → Outline → Outline
outline_after c o =
    record {
      x0 = low_after (on_x c) o.x0 o.x1;
      y0 = low_after (on_y c) o.y0 o.y1;
      x1 = high_after (on_x c) o.x0 o.x1;
      y1 = high_after (on_y c) o.y0 o.y1;
    }

abbrev pub member_after : Change → Member → Member
member_after c m = record { class = m.class; grain = m.grain; thickness = m.thickness; outline = outline_after c m.outline }

abbrev pub members_after : Change → Members → Members
members_after c m =
    record { planes = m.planes; member1 = member_after c m.member1; member2 = member_after c m.member2 }

abbrev pub loads_after : Change → Loads → Loads
loads_after c l =
    record {
      service_class = l.service_class;
      duration = l.duration;
      fx = force_after (on_x c) l.fx;
      fy = force_after (on_y c) l.fy;
    }

-- w is v after a change: as many dowels, one for one, each where the change puts it; all that is not named stays
pub record After (c : Change) (v w : Values) : Type 0 where
  pub version : w.version ≡ v.version
  pub members : w.members ≡ members_after c v.members
  pub dowel : w.dowel ≡ v.dowel
  pub number : w.positions.n ≡ v.positions.n
  pub order : Relisting v.positions.n (there c) (back c)
  pub x : (i : ℕ) → i < v.positions.n → place w.positions.x i ≡ place_after (on_x c) (place v.positions.x (there c i))
  pub y : (i : ℕ) → i < v.positions.n → place w.positions.y i ≡ place_after (on_y c) (place v.positions.y (there c i))
  pub loads : w.loads ≡ loads_after c v.loads

abbrev pub DrawnOtherwise : Values → Values → Type 0
DrawnOtherwise v w = (c : Change) × After c v w

-- ---- 'two records that pass 1 to 9': none of these applies, read by a table. Later tests of a record (17, 21, 22) are not among them
abbrev pub Passes : Table → List ℕ → Type 0
Passes t s = first_holding (record_tests t s) ≡ 0

-- one change, or several, one after the other, where each record on the way passes 1 to 9 too
pub data Redrawn (t : Table) (s : List ℕ) : List ℕ → Type 0 where
  as_drawn : Redrawn t s s
  then : (u w : List ℕ) → Redrawn t s u → Passes t w → DrawnOtherwise (values_of u) (values_of w) → Redrawn t s w

-- ---- 'They get the same verdict, refusal number, member, capacity, share and use. The named dowels may differ.'
pub record SameAnswer (r q : Report) : Type 0 where
  pub verdict : q.verdict ≡ r.verdict
  pub number : q.number ≡ r.number
  pub member : q.member ≡ r.member
  pub usage : q.usage ≡ r.usage
  pub capacity : q.capacity ≡ r.capacity
  pub share : q.share ≡ r.share

-- r and q are reports on the two records by one table: that `judge_with` returns such, and `judge` by the printed table, their contracts say
abbrev pub DrawnAlike : Table → List ℕ → List ℕ → Type 0
DrawnAlike t s u = Passes t s → Redrawn t s u → (r q : Report) → Reported t s r → Reported t u q → SameAnswer r q

-- records of equal values (their parts in another order, say) get one report, the dowels named too
abbrev pub EqualAlike : Table → List ℕ → List ℕ → Type 0
EqualAlike t s u = Passes t s → Passes t u → values_of u ≡ values_of s → (r q : Report) → Reported t s r → Reported t u q → q ≡ r
