-- One record in two versions (02, A7): what version 2 asks more is edges alone.
use Rattle.std.specs.Prelude.{ℕ, ◌%◌, ◌/◌, ◌≡◌, ◌⊎◌, List, set}
use Rattle.tables.specs.Table.{Table}
use Rattle.joint.specs.Layout.{version}
use Rattle.joint.specs.Returned.{report_of}
use Rattle.joint.specs.Claim.{Accepted}

-- 'A record of version 2 has the layout of version 1': the same bytes, but for the version in bytes 0 and 1
abbrev pub in_version : ℕ → List ℕ → List ℕ
in_version n s = set (set s 0 (n % 256)) 1 (n / 256)

-- u gets the report of s, or is refused by 12
abbrev pub SameOr12 : Table → List ℕ → List ℕ → Type 0
SameOr12 t s u = (report_of t u ≡ report_of t s) ⊎ ((report_of t u).number ≡ 12)

-- a record of version 1, and the same in version 2
abbrev pub EdgesAlone : Table → List ℕ → Type 0
EdgesAlone t s = version s ≡ 1 → SameOr12 t s (in_version 2 s)

-- a record of version 2 that is accepted, and the same in version 1: one report for both
abbrev pub AcceptedAlike : Table → List ℕ → Type 0
AcceptedAlike t s = version s ≡ 2 → Accepted t s → report_of t (in_version 1 s) ≡ report_of t s
