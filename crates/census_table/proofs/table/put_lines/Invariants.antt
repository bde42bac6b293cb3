use Rattle.std.proofs.Common.{◌++◌}
use Rattle.std.specs.Option.{option_copied}
use Rattle.watched.specs.Telling.{sheet}
use Rattle.watched.proofs.Prefixes.{TellsUpTo}
use Rattle.census_table.specs.Emitting.{no_last}
use Rattle.census_table.specs.Tables.{things_text}
use Rattle.census_table.specs.Things.{things_from}
use Rattle.census_table.specs.Written.{records_text}
use Rattle.census_table.proofs.table.put_lines.Given as goal

abbrev pub invariant-loop-index : goal.invariant-loop-index
invariant-loop-index g l =
    TellsUpTo (records_text l.fn.held.items ++ things_text (option_copied l.names) l.format (things_from l.lines no_last 0))
    (records_text l.held.items ++ things_text (option_copied l.names) l.format (things_from l.lines l.last l.index))
    (sheet l.fn.block l.fn.writer) (sheet l.block l.writer)
