-- Joints at the limits of their edges, worked out by hand from 02, A7, and joint B of 01 in version 2, by the printed table.
use Rattle.std.specs.Prelude.{ℕ, ◌+◌, ◌-◌, List, [], ◌∷◌, ◌++◌}
use Rattle.joint.specs.Starred.{Starred, record_of, joint_b, lone_header, lone_positions}
use Rattle.joint.specs.Starred.Prints.{no_refusal, refused, fits_with}
use Rattle.laws.specs.Versions.{in_version}

-- One dowel of 30 mm at (0, 0), C24, grain x in both members, all limits 90,000 away but member 1's y0 and member 2's y1.
abbrev pub far_below : List ℕ
far_below = 112 ∷ 160 ∷ 254 ∷ 255 ∷ []

abbrev pub far_above : List ℕ
far_above = 144 ∷ 95 ∷ 1 ∷ 0 ∷ []

abbrev pub members : List ℕ → List ℕ → List ℕ
members y0 y1 =
    1 ∷ 2
    ∷ 1 ∷ 0 ∷ 88 ∷ 2 ∷ far_below ++ y0 ++ far_above ++ far_above
    ++ 1 ∷ 0 ∷ 32 ∷ 3 ∷ far_below ++ far_below ++ far_above ++ y1

-- force (fx, 500,000); (2 + 2 sin α) d is 600 + 600 sin α tenths
abbrev pub loads : List ℕ → List ℕ
loads fx = 4 ∷ 1 ∷ 3 ∷ fx ++ 32 ∷ 161 ∷ 7 ∷ 0 ∷ []

-- fx 866,025: sin α is a hair above 1/2, the limit a hair above 900; 866,026: a hair below, and 3d = 900 decides
abbrev pub steeper : List ℕ
steeper = 233 ∷ 54 ∷ 13 ∷ 0 ∷ []

abbrev pub flatter : List ℕ
flatter = 234 ∷ 54 ∷ 13 ∷ 0 ∷ []

-- in a version, with fx, member 1's y0 and member 2's y1
abbrev pub edged : ℕ → List ℕ → List ℕ → List ℕ → List ℕ
edged n fx y0 y1 = in_version n (record_of lone_header (members y0 y1) (2 ∷ 30 ∷ 1 ∷ []) lone_positions (loads fx))

-- y1 = 899 + k, y0 = -(899 + k)
abbrev pub above : ℕ → List ℕ
above k = (131 + k) ∷ 3 ∷ 0 ∷ 0 ∷ []

abbrev pub below : ℕ → List ℕ
below k = (125 - k) ∷ 252 ∷ 255 ∷ 255 ∷ []

abbrev pub edges : List Starred
edges =
    -- member 2's upper edge, towards which its force has a component
    record { bytes = edged 2 steeper far_below (above 2); prints = no_refusal }
    ∷ record { bytes = edged 2 steeper far_below (above 1); prints = refused 12 2 1 0 }
    ∷ record { bytes = edged 2 flatter far_below (above 1); prints = no_refusal }
    ∷ record { bytes = edged 2 flatter far_below (above 0); prints = refused 12 2 1 0 }
    -- member 1's lower edge: it gets the opposite force
    ∷ record { bytes = edged 2 steeper (below 2) far_above; prints = no_refusal }
    ∷ record { bytes = edged 2 steeper (below 1) far_above; prints = refused 12 1 1 0 }
    ∷ record { bytes = edged 2 flatter (below 1) far_above; prints = no_refusal }
    ∷ record { bytes = edged 2 flatter (below 0) far_above; prints = refused 12 1 1 0 }
    -- in version 1 both edges need 3d; version 3 is not yet known
    ∷ record { bytes = edged 1 steeper far_below (above 1); prints = no_refusal }
    ∷ record { bytes = edged 1 steeper far_below (above 0); prints = refused 12 2 1 0 }
    ∷ record { bytes = edged 3 steeper far_below far_above; prints = refused 2 0 0 0 }
    -- joint B: its force runs along the grain
    ∷ record { bytes = in_version 2 joint_b; prints = fits_with 7431 7469 7440 7441 7346 7347 }
    ∷ []
