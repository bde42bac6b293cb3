use Rattle.std.proofs.Common.{false, drop}
use Rattle.std.specs.List.{filter_map}
use Rattle.census_table.specs.Lists.{portion_of}
use Rattle.watched.specs.Telling.{sheet}
use Rattle.watched.proofs.Prefixes.{TellsUpTo}
use Rattle.census_table.specs.Json.{portion_json}
use Rattle.census_table.specs.Json.{items_text}
use Rattle.census_table.proofs.lists.put_portions.Given as goal

abbrev pub invariant-loop-index : goal.invariant-loop-index
invariant-loop-index g l =
    TellsUpTo (items_text portion_json false (filter_map portion_of l.rows)) (items_text portion_json l.later (filter_map portion_of (drop l.index l.rows)))
    (sheet l.fn.block l.fn.writer) (sheet l.block l.writer)
