-- Each return by the law of its test.
use Rattle.joint.proofs.Stages.{bounded, header_right, too_short, wrong_version, wrong_count, pairs_broken, wrong_kinds, wrong_length, right_lengths, kinds_there, part_inside}
use Rattle.joint.proofs.layout.read_layout.Goals as goal

pub returns-then-bytes-lt-HEADER_BYTES-clause-number : goal.returns-then-bytes-lt-HEADER_BYTES-clause-number
returns-then-bytes-lt-HEADER_BYTES-clause-number c = too_short _ c.if-bytes-lt-HEADER_BYTES.true

pub returns-then-not-is_version-clause-number : goal.returns-then-not-is_version-clause-number
returns-then-not-is_version-clause-number c =
    wrong_version _ c.if-bytes-lt-HEADER_BYTES.false c.u16_at.ensures c.is_version.ensures c.if-not-is_version.true

pub returns-then-u16_at-ne-PAIRS-clause-number : goal.returns-then-u16_at-ne-PAIRS-clause-number
returns-then-u16_at-ne-PAIRS-clause-number c =
    wrong_count _ c.if-bytes-lt-HEADER_BYTES.false c.u16_at.ensures c.is_version.ensures c.if-not-is_version.false c.u16_at-2.ensures c.if-u16_at-ne-PAIRS.true

pub returns-then-not-read-clause-number : goal.returns-then-not-read-clause-number
returns-then-not-read-clause-number c = pairs_broken _ (search header_right) c.read.ensures c.if-not-read.true

pub find_parts-requires : goal.find_parts-requires
find_parts-requires c = bounded c.read.ensures c.if-not-read.false

pub returns-in_default-clause-number : goal.returns-in_default-clause-number
returns-in_default-clause-number c = wrong_kinds _ (search header_right) c.read.ensures c.if-not-read.false c.in_default.ensures

pub are_sized-requires : goal.are_sized-requires
are_sized-requires c = part_inside c.read.ensures c.if-not-read.false c.in-Some.ensures

pub returns-then-not-are_sized-clause-number : goal.returns-then-not-are_sized-clause-number
returns-then-not-are_sized-clause-number c = wrong_length _ (search header_right) c.read.ensures c.if-not-read.false c.in-Some.ensures c.are_sized.ensures c.if-not-are_sized.true

pub returns-clause-number : goal.returns-clause-number
returns-clause-number c = right_lengths _ (search header_right) c.read.ensures c.if-not-read.false c.in-Some.ensures c.are_sized.ensures c.if-not-are_sized.false

pub returns-clause-parts : goal.returns-clause-parts
returns-clause-parts c = (kinds_there _ c.in-Some.ensures).1
