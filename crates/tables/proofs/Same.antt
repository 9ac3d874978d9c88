-- Tables that are alike; the printed table in a firm's layout is one.
use mathlib.Core.Path.{refl}
use Rattle.chain.specs.Chain.{number_at, bound, all_follow, chained}
use Rattle.codes.specs.Tables.{printed_classes}
use Rattle.tables.specs.Tests.{first_holding}
use Rattle.tables.specs.Entries.{entries_in, entry_within, rise, refusal15}
use Rattle.tables.specs.Pairs.{all_whole, refusal14}
use Rattle.tables.specs.Table.{printed, printed_as_own, Loaded, Alike}

-- it has the printed classes, and is turned away as the printed table is: by nothing
pub printed_alike : Alike printed_as_own printed
unfolding first_holding refusal14 refusal15 number_at bound all_follow chained all_whole entries_in entry_within rise printed_classes
printed_alike = record { number = refl; classes = refl }

-- 'The printed table, written in this layout, loads'
pub printed_loads : Loaded printed_as_own
unfolding first_holding
printed_loads = printed_alike.number
