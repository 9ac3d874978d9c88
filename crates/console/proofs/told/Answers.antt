-- A failed read leaves nothing to judge.
use mathlib.Core.Bool.{true}
use Rattle.console.proofs.Inputs.{failed_is, unread_is, not_told}
use Rattle.console.proofs.told.Goals as goal

pub returns-then-is_none : goal.returns-then-is_none
returns-then-is_none c =
    let a = c.args in
    let u = unread_is a.first a.second _ _ true (failed_is _ _ c.is_none.ensures) (failed_is _ _ c.is_none-2.ensures) c.if-is_none.true in
    not_told a.first a.second a.buffer.now _ _ _ c.unwrap_or-count.ensures c.unwrap_or-more.ensures u c.new.ensures
