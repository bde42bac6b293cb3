use Rattle.std.proofs.Common.{false, drop}
use Rattle.watched.specs.Telling.{sheet}
use Rattle.watched.proofs.Prefixes.{TellsUpTo}
use Rattle.census_table.specs.Json.{engine_json}
use Rattle.census_table.specs.Lists.{all_engines}
use Rattle.census_table.specs.Json.{items_text}
use Rattle.census_table.proofs.lists.put_engines.Given as goal

abbrev pub invariant-loop-index : goal.invariant-loop-index
invariant-loop-index g l =
    TellsUpTo (items_text engine_json false (all_engines l.rows)) (items_text engine_json l.later (all_engines (drop l.index l.rows)))
    (sheet l.fn.block l.fn.writer) (sheet l.block l.writer)
