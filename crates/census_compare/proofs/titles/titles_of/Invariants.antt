use Rattle.std.proofs.Common.{◌≡◌, map, take}
use Rattle.census_compare.specs.Claims.{title_read}
use Rattle.census_compare.specs.Columns.{title_of}
use Rattle.census_compare.proofs.titles.titles_of.Given as goal

abbrev pub invariant-loop-cell : goal.invariant-loop-cell
invariant-loop-cell l = map title_read l.titles.items ≡ map title_of (map (λ cell. cell.items) (take l.cell-index l.cells))
