use Rattle.std.proofs.Common.{◌++◌}
use Rattle.std.specs.Option.{option_copied}
use Rattle.watched.specs.Telling.{sheet}
use Rattle.watched.proofs.Prefixes.{TellsUpTo}
use Rattle.census_table.specs.Tables.{listing_of, listing_text, table_from, things_text}
use Rattle.census_table.specs.Written.{records_text}
use Rattle.census_table.proofs.table.put_listing.Given as goal

abbrev pub invariant-loop-index : goal.invariant-loop-index
invariant-loop-index g l =
    TellsUpTo (listing_text l.format (option_copied l.names) (listing_of l.table))
    (records_text l.held.items ++ things_text (option_copied l.names) l.format (table_from l.table l.index))
    (sheet l.fn.block l.fn.writer) (sheet l.block l.writer)
