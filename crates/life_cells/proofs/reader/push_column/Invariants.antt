use Rattle.std.proofs.Common.{◌≡◌, ◌++◌, map, true}
use Rattle.std.specs.Prelude.{All}
use Rattle.std.specs.List.{list_any}
use Rattle.life_cells.specs.Limits.{IsWithin}
use Rattle.life_cells.specs.Readings.{cell_of_pair}
use Rattle.life_cells.specs.CodeReading.{begins_near, column_cells, is_far}
use Rattle.life_cells.specs.Drawing.{cells_left}
use Rattle.life_cells.proofs.reader.push_column.Given as goal

-- the cells so far and those from this row on are all of the column
abbrev pub invariant-rows : goal.invariant-rows
invariant-rows l = record {
  cells : l.initial.cells.items ++ map cell_of_pair (column_cells l.strip l.column l.value) ≡ l.cells.items ++ map cell_of_pair (cells_left l.strip l.column l.value l.row);
  far : list_any is_far (column_cells l.strip l.column l.value) ≡ list_any is_far (cells_left l.strip l.column l.value l.row);
  first : begins_near (cells_left l.strip l.column l.value l.row) ≡ true → begins_near (column_cells l.strip l.column l.value) ≡ true;
  within : All (IsWithin 0) l.initial.cells.items → All (IsWithin 0) l.cells.items;
}
