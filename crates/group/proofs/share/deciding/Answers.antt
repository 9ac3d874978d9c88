use mathlib.Core.Path.{◌≡◌, sym, ap₂, ◌∙◌}
use Prim.Native.Nat.{◌*◌, ◌^◌}
use lib.Dec.{leb}
use native.Mathlib.Nat.{mul-le-mul, pow-le-pow_left, le_of_lt}
use borrow.Author.Tests.{leb-true, leb-false}
use Rattle.group.proofs.Shares.{first_decides, second_decides, some_factor}
use Rattle.group.proofs.share.deciding.Goals as goal

pub returns-then-worst-row : goal.returns-then-worst-row
returns-then-worst-row c = let n = c.if-row-worst.true in
    record {
      some = c.requires.0;
      within = c.requires.1;
      both = first_decides _ _ _ _ c.requires.0 (mul-le-mul (mul-le-mul n n) (pow-le-pow_left c.if-worst-row.true 5));
    }

pub returns-then-at_most : goal.returns-then-at_most
returns-then-at_most c = let tested : let v = c.args in c.at_most.result ≡ leb (v.row.number * v.row.number * v.worst.least ^ 5) (v.worst.number * v.worst.number * v.row.least ^ 5) = c.at_most.ensures ∙ ap₂ leb c.product-there.ensures c.product-here.ensures in
    let l = leb-true _ _ (sym (tested) ∙ c.if-at_most.true) in
    record { some = c.requires.0; within = c.requires.1; both = first_decides _ _ _ _ c.requires.0 l }

pub returns : goal.returns
returns c = let tested : let v = c.args in c.at_most.result ≡ leb (v.row.number * v.row.number * v.worst.least ^ 5) (v.worst.number * v.worst.number * v.row.least ^ 5) = c.at_most.ensures ∙ ap₂ leb c.product-there.ensures c.product-here.ensures in
    let l = leb-false _ _ (sym (tested) ∙ c.if-at_most.false) in
    let some = some_factor _ _ _ l in
    record { some = some; within = c.requires.2; both = second_decides _ _ _ _ some (le_of_lt l) }
