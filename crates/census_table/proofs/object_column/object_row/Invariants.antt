use Rattle.std.proofs.Common.{◌≡◌, ◌++◌, drop}
use Rattle.std.specs.Option.{option_copied}
use Rattle.census_table.specs.Contents.{row_of}
use Rattle.census_table.specs.ObjectColumns.{object_row}
use Rattle.census_table.proofs.object_column.object_row.Given as goal

abbrev pub invariant-loop-column : goal.invariant-loop-column
invariant-loop-column l = row_of l.row.items ++ object_row (option_copied l.names) (drop l.column-index l.columns) l.object ≡ object_row (option_copied l.names) l.columns l.object
