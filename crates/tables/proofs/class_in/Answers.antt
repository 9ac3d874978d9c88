use borrow.Author.Rules.{rules}
use mathlib.Core.Bool.{Bool}
use mathlib.Core.List.{List}
use Prim.Native.Nat.{ℕ}
use lib.Dec.{eqb}
use Rattle.std.proofs.lemmas.Iterator.{YieldsList-from_map, YieldsList-from_slice}
use Rattle.std.proofs.lemmas.Iterator.Search.{find_from_yields_List}
use Rattle.tables.specs.Classes.{class_in}
use Rattle.tables.specs.declared.entry.Entry.{Entry}
use Rattle.tables.specs.Entries.{entry_at, entries_of}
use Rattle.tables.proofs.Entries.{found}
use Rattle.tables.proofs.class_in.Goals as goal

pub returns : goal.returns
unfolding class_in
returns c = let es = entries_of c.args.entries.now in
    let test : Entry → Bool = λ e. eqb c.args.code e.code in
    found c.args.code es c.find.result c.map-2.result
    (find_from_yields_List test c.find.new.self _ c.find.result c.find.ensures.ran
    (YieldsList-from_map _ (λ (b : List ℕ). entry_at b 0) (YieldsList-from_slice c.args.entries.now cc) c.map.ensures.closure (λ x r q k. search rules))
    (λ x b f k. search rules))
    (search rules)
