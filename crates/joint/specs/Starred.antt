-- The starred joints of 01, 'Joints to try', with what 01 prints of each, and two of oak (02, A1), with what its formulas give, by the printed
-- table; and joints by a firm's own table (A4).
use Rattle.std.specs.Prelude.{ℕ, ◌≤◌, ◌≡◌, List, [], ◌∷◌, ◌++◌, set}
use Rattle.joint.specs.Answer.{Verdict}
use Rattle.joint.specs.Answer.Verdict.{Fits, Overloaded, Refused}
use Rattle.joint.specs.Answer.{Report}
use Rattle.tables.specs.Table.{printed, own_table}
use Rattle.joint.specs.Claim.{Judged}

-- Joint B: p = 2, C24 throughout, grain x, t1 600, t2 800; member 1 x -840 to 20,000, member 2 x -20,000 to 1,440, both y -360 to
-- 720; d = 12, S235; dowels (0,0), (600,0), (0,360), (600,360); class 1, medium; force (20,000, 0).
abbrev pub members_b : List ℕ
members_b =
    1 ∷ 2
    ∷ 1 ∷ 0 ∷ 88 ∷ 2 ∷ 184 ∷ 252 ∷ 255 ∷ 255 ∷ 152 ∷ 254 ∷ 255 ∷ 255 ∷ 32 ∷ 78 ∷ 0 ∷ 0 ∷ 208 ∷ 2 ∷ 0 ∷ 0
    ∷ 1 ∷ 0 ∷ 32 ∷ 3 ∷ 224 ∷ 177 ∷ 255 ∷ 255 ∷ 152 ∷ 254 ∷ 255 ∷ 255 ∷ 160 ∷ 5 ∷ 0 ∷ 0 ∷ 208 ∷ 2 ∷ 0 ∷ 0 ∷ []

abbrev pub dowel_b : List ℕ
dowel_b = 2 ∷ 12 ∷ 1 ∷ []

abbrev pub positions_b : List ℕ
positions_b =
    3 ∷ 4
    ∷ 0 ∷ 0 ∷ 0 ∷ 0 ∷ 0 ∷ 0 ∷ 0 ∷ 0 ∷ 88 ∷ 2 ∷ 0 ∷ 0 ∷ 0 ∷ 0 ∷ 0 ∷ 0
    ∷ 0 ∷ 0 ∷ 0 ∷ 0 ∷ 104 ∷ 1 ∷ 0 ∷ 0 ∷ 88 ∷ 2 ∷ 0 ∷ 0 ∷ 104 ∷ 1 ∷ 0 ∷ 0 ∷ []

abbrev pub loads_b : List ℕ
loads_b = 4 ∷ 1 ∷ 3 ∷ 32 ∷ 78 ∷ 0 ∷ 0 ∷ 0 ∷ 0 ∷ 0 ∷ 0 ∷ []

abbrev pub header_b : List ℕ
header_b = 1 ∷ 0 ∷ 4 ∷ 0 ∷ 20 ∷ 0 ∷ 42 ∷ 0 ∷ 62 ∷ 0 ∷ 3 ∷ 0 ∷ 65 ∷ 0 ∷ 34 ∷ 0 ∷ 99 ∷ 0 ∷ 11 ∷ 0 ∷ []

abbrev pub record_of : List ℕ → List ℕ → List ℕ → List ℕ → List ℕ → List ℕ
record_of header members dowel positions loads = header ++ members ++ dowel ++ positions ++ loads

abbrev pub joint_b : List ℕ
joint_b = record_of header_b members_b dowel_b positions_b loads_b

-- with dowel 1 alone
abbrev pub lone_header : List ℕ
lone_header = 1 ∷ 0 ∷ 4 ∷ 0 ∷ 20 ∷ 0 ∷ 42 ∷ 0 ∷ 62 ∷ 0 ∷ 3 ∷ 0 ∷ 65 ∷ 0 ∷ 10 ∷ 0 ∷ 75 ∷ 0 ∷ 11 ∷ 0 ∷ []

abbrev pub lone_positions : List ℕ
lone_positions = 3 ∷ 1 ∷ 0 ∷ 0 ∷ 0 ∷ 0 ∷ 0 ∷ 0 ∷ 0 ∷ 0 ∷ []

-- with force (3,000, 4,000) and two dowels, across 0 and the second one along by low + 256 high tenths
abbrev pub pair_header : List ℕ
pair_header = 1 ∷ 0 ∷ 4 ∷ 0 ∷ 20 ∷ 0 ∷ 42 ∷ 0 ∷ 62 ∷ 0 ∷ 3 ∷ 0 ∷ 65 ∷ 0 ∷ 18 ∷ 0 ∷ 83 ∷ 0 ∷ 11 ∷ 0 ∷ []

abbrev pub pair_positions : ℕ → ℕ → List ℕ
pair_positions low high = 3 ∷ 2 ∷ 0 ∷ 0 ∷ 0 ∷ 0 ∷ 0 ∷ 0 ∷ 0 ∷ 0 ∷ low ∷ high ∷ 0 ∷ 0 ∷ 0 ∷ 0 ∷ 0 ∷ 0 ∷ []

abbrev pub pair_loads : List ℕ
pair_loads = 4 ∷ 1 ∷ 3 ∷ 184 ∷ 11 ∷ 0 ∷ 0 ∷ 160 ∷ 15 ∷ 0 ∷ 0 ∷ []

-- what is printed: no refusal; a refusal with its place; or the verdict, with U, C and E from the first to the second of each pair; or C
pub data Prints : Type 0 where
  no_refusal : Prints
  refused : ℕ → ℕ → ℕ → ℕ → Prints
  verdict : Verdict → Prints
  carries : ℕ → ℕ → Prints
  overloaded_with : ℕ → ℕ → Prints
  lone_with : ℕ → ℕ → ℕ → ℕ → Prints
  fits_with : ℕ → ℕ → ℕ → ℕ → ℕ → ℕ → Prints

pub record Within (low high n : ℕ) : Type 0 where
  pub from : low ≤ n
  pub to : n ≤ high

pub record PassesAs (r : Report) : Type 0 where
  pub verdict : r.verdict ≡ Refused → ⊥
  pub number : r.number ≡ 0

pub record RefusedAs (n m i j : ℕ) (r : Report) : Type 0 where
  pub verdict : r.verdict ≡ Refused
  pub number : r.number ≡ n
  pub member : r.member ≡ m
  pub first : r.first ≡ i
  pub second : r.second ≡ j

pub record FitsAs (uLow uHigh cLow cHigh eLow eHigh : ℕ) (r : Report) : Type 0 where
  pub verdict : r.verdict ≡ Fits
  pub usage : Within uLow uHigh r.usage
  pub capacity : Within cLow cHigh r.capacity
  pub share : Within eLow eHigh r.share

pub record CarriesAs (cLow cHigh : ℕ) (r : Report) : Type 0 where
  pub number : r.number ≡ 0
  pub capacity : Within cLow cHigh r.capacity

pub record OverloadedAs (cLow cHigh : ℕ) (r : Report) : Type 0 where
  pub verdict : r.verdict ≡ Overloaded
  pub capacity : Within cLow cHigh r.capacity

pub record LoneAs (uLow uHigh eLow eHigh : ℕ) (r : Report) : Type 0 where
  pub usage : Within uLow uHigh r.usage
  pub share : Within eLow eHigh r.share

-- a report says so
abbrev pub SaysSo : Prints → Report → Type 0
SaysSo no_refusal r = PassesAs r
SaysSo (refused n m i j) r = RefusedAs n m i j r
SaysSo (verdict v) r = r.verdict ≡ v
SaysSo (carries a b) r = CarriesAs a b r
SaysSo (overloaded_with a b) r = OverloadedAs a b r
SaysSo (lone_with a b c d) r = LoneAs a b c d r
SaysSo (fits_with a b c d e f) r = FitsAs a b c d e f r

pub record Starred : Type 0 where
  pub bytes : List ℕ
  pub prints : Prints

-- 01's stars, in its order; then those of oak
abbrev pub starred : List Starred
starred =
    -- B
    record { bytes = joint_b; prints = fits_with 7431 7469 7440 7441 7346 7347 }
    -- B with fx 26,700; with 27,000
    ∷ record { bytes = record_of header_b members_b dowel_b positions_b (set (set loads_b 3 76) 4 104); prints = verdict Fits }
    ∷ record { bytes = record_of header_b members_b dowel_b positions_b (set (set loads_b 3 120) 4 105); prints = verdict Overloaded }
    -- B with dowels 2 and 4 at x 599
    ∷ record { bytes = record_of header_b members_b dowel_b (set (set positions_b 10 87) 26 87) loads_b; prints = refused 10 1 1 2 }
    -- member 2 ending at 1,439; member 1 with y1 719
    ∷ record { bytes = record_of header_b (set members_b 34 159) dowel_b positions_b loads_b; prints = refused 11 2 2 0 }
    ∷ record { bytes = record_of header_b (set members_b 18 207) dowel_b positions_b loads_b; prints = refused 12 1 3 0 }
    -- B with t1 200; with t1 199
    ∷ record { bytes = record_of header_b (set (set members_b 4 200) 5 0) dowel_b positions_b loads_b; prints = overloaded_with 2509 2510 }
    ∷ record { bytes = record_of header_b (set (set members_b 4 199) 5 0) dowel_b positions_b loads_b; prints = refused 7 0 0 0 }
    -- B with only dowel 1, force 3,000
    ∷ record {
      bytes =
          record_of lone_header members_b dowel_b lone_positions (set (set loads_b 3 184) 4 11);
      prints = lone_with 6552 6586 9999 10000;
    }
    -- force (3,000, 4,000), d 12, grain x, across 0: along 504 passes the pair rule, 503 doesn't
    ∷ record { bytes = record_of pair_header members_b dowel_b (pair_positions 248 1) pair_loads; prints = no_refusal }
    ∷ record { bytes = record_of pair_header members_b dowel_b (pair_positions 247 1) pair_loads; prints = refused 10 1 1 2 }
    -- B with only dowel 1, D30 in both members, force (0, 3,000): across the grain k90 counts; with softwood's C were 7,401 or 7,402
    ∷ record {
      bytes =
          record_of lone_header (set (set members_b 2 9) 22 9) dowel_b lone_positions
          (set (set (set (set loads_b 3 0) 4 0) 7 184) 8 11);
      prints = fits_with 5533 5562 8810 8811 9999 10000;
    }
    -- B with only dowel 1, D30 between sides of C24, force (3,000, 4,000); with the k90 or density of either in both members C were another
    ∷ record { bytes = record_of lone_header (set members_b 22 9) dowel_b lone_positions pair_loads; prints = overloaded_with 6081 6082 }
    ∷ []

-- every report for which the claim holds, at the printed table, on a starred joint's bytes says what stands beside it
abbrev pub AllHold : List Starred → Type 0
AllHold [] = Unit {0}
AllHold (s ∷ ss) = ((r : Report) → Judged printed s.bytes r → SaysSo s.prints r) × AllHold ss

-- ---- 02, A4: a joint by a firm's own table, which is handed in as bytes
pub record Graded : Type 0 where
  pub table : List ℕ
  pub bytes : List ℕ
  pub prints : Prints

-- one entry of density 900: 1 pair, offset 6, length 4; code, kind, density
abbrev pub one_class : ℕ → ℕ → List ℕ
one_class code kind = 1 ∷ 0 ∷ 6 ∷ 0 ∷ 4 ∷ 0 ∷ code ∷ kind ∷ 132 ∷ 3 ∷ []

-- the same entry twice
abbrev pub twice : List ℕ
twice = 1 ∷ 0 ∷ 6 ∷ 0 ∷ 8 ∷ 0 ∷ 1 ∷ 0 ∷ 132 ∷ 3 ∷ 1 ∷ 0 ∷ 132 ∷ 3 ∷ []

-- joint B in outlines of ±90,000, with force (0, 20,000)
abbrev pub outline_wide : List ℕ
outline_wide = 112 ∷ 160 ∷ 254 ∷ 255 ∷ 112 ∷ 160 ∷ 254 ∷ 255 ∷ 144 ∷ 95 ∷ 1 ∷ 0 ∷ 144 ∷ 95 ∷ 1 ∷ 0 ∷ []

abbrev pub members_wide : List ℕ
members_wide = 1 ∷ 2 ∷ 1 ∷ 0 ∷ 88 ∷ 2 ∷ outline_wide ++ 1 ∷ 0 ∷ 32 ∷ 3 ∷ outline_wide

abbrev pub loads_across : List ℕ
loads_across = 4 ∷ 1 ∷ 3 ∷ 0 ∷ 0 ∷ 0 ∷ 0 ∷ 32 ∷ 78 ∷ 0 ∷ 0 ∷ []

abbrev pub graded : List Graded
graded =
    -- class 1 as hardwood, and as softwood: the force is across the grain, where k90 counts
    record {
      table = one_class 1 1;
      bytes = record_of header_b members_wide dowel_b positions_b loads_across;
      prints = carries 11480 11481;
    }
    ∷ record {
      table = one_class 1 0;
      bytes = record_of header_b members_wide dowel_b positions_b loads_across;
      prints = carries 9645 9646;
    }
    -- a table of class 200 alone: B with this class, and B
    ∷ record { table = one_class 200 0; bytes = record_of header_b (set (set members_b 2 200) 22 200) dowel_b positions_b loads_b; prints = no_refusal }
    ∷ record { table = one_class 200 0; bytes = joint_b; prints = refused 7 0 0 0 }
    -- no bytes as a table; a code not above the one before, and no bytes as a record
    ∷ record { table = []; bytes = joint_b; prints = refused 14 0 0 0 }
    ∷ record { table = twice; bytes = []; prints = refused 15 0 0 0 }
    ∷ []

-- every report for which the claim holds, at the table, on the joint's bytes says what stands beside them
abbrev pub AllGraded : List Graded → Type 0
AllGraded [] = Unit {0}
AllGraded (g ∷ gs) = ((r : Report) → Judged (own_table g.table) g.bytes r → SaysSo g.prints r) × AllGraded gs
