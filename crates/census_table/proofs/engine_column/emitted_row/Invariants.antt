use Rattle.std.proofs.Common.{◌≡◌, ◌++◌, drop}
use Rattle.std.specs.Option.{option_copied}
use Rattle.census_table.specs.EngineColumns.{emitted_row}
use Rattle.census_table.specs.Contents.{row_of}
use Rattle.census_table.proofs.engine_column.emitted_row.Given as goal

abbrev pub invariant-loop-column : goal.invariant-loop-column
invariant-loop-column l = row_of l.row.items ++ emitted_row (option_copied l.names) (drop l.column-index l.columns) l.emitted ≡ emitted_row (option_copied l.names) l.columns l.emitted
