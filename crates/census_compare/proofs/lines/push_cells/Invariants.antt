use Rattle.std.proofs.Common.{◌≡◌, ◌&&◌, drop, map}
use Rattle.std.specs.List.{list_all}
use Rattle.census_compare.specs.Claims.{cell_read}
use Rattle.census_compare.specs.Columns.{is_empty}
use Rattle.census_compare.specs.Tests.{cell_agrees}
use Rattle.census_compare.proofs.lines.push_cells.Given as goal

abbrev pub invariant-loop-cell : goal.invariant-loop-cell
invariant-loop-cell l =
    (is_empty l.text.items && list_all (cell_agrees l.pattern) (map cell_read (drop l.cell-index l.cells)))
    ≡ (is_empty l.fn.text.items && list_all (cell_agrees l.pattern) (map cell_read l.cells))
