use Rattle.std.proofs.Common.{◌≡◌, ◌++◌, drop}
use Rattle.std.specs.Option.{option_copied}
use Rattle.census_table.specs.Columns.{entry_row}
use Rattle.census_table.specs.Contents.{row_of}
use Rattle.census_table.proofs.column.entry_row.Given as goal

abbrev pub invariant-loop-column : goal.invariant-loop-column
invariant-loop-column l = row_of l.row.items ++ entry_row (option_copied l.names) (drop l.column-index l.columns) l.entry ≡ entry_row (option_copied l.names) l.columns l.entry
