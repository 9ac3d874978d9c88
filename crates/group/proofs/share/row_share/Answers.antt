-- The whole passes, or the greatest share is bracketed between nothing and it.
use borrow.Author.Tests.{leb-true, leb-false}
use mathlib.Core.Path.{sym, ◌∙◌}
use native.Mathlib.Omega.{arith}
use lib.Dec.{lit≤}
use Rattle.group.proofs.Shares.{factor_within, row_tested, greatest_here, row_floor}
use Rattle.group.proofs.share.row_share.Goals as goal

pub passed-requires : goal.passed-requires
passed-requires c = (lit≤ tt, rw c.product-q.ensures (factor_within c.requires.0 c.requires.1.most))

pub returns-then-passed : goal.returns-then-passed
returns-then-passed c = let t = row_tested _ _ _ 10000 _ _ c.product-q.ensures c.scaled-n.ensures in
    greatest_here _ 10000 (sym t ∙ sym c.passed.ensures ∙ c.if-passed.true)

pub greatest_between-requires-clause-tried : goal.greatest_between-requires-clause-tried
greatest_between-requires-clause-tried c = λ number h. (omega arith, rw c.product-q.ensures (factor_within c.requires.0 c.requires.1.most))

pub returns : goal.returns
returns c = let b = c.greatest_between.ensures in
    row_floor _ _ _ _ _ _ _ c.product-q.ensures c.scaled-n.ensures
    (record { from = b.within.0; below = b.within.1; low = leb-true _ _ (sym b.passed); high = leb-false _ _ (sym b.failed) })
