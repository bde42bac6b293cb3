use Rattle.std.proofs.Common.{◌≡◌, length, map}
use Rattle.census_compare.specs.Claims.{first_fault, title_read}
use Rattle.census_compare.specs.Read.{HasLines, rows_left}
use Rattle.census_compare.proofs.reading.first_fault.Given as goal

abbrev pub invariant-loop-row : goal.invariant-loop-row
invariant-loop-row l = record {
  lines : HasLines l.rows;
  same : first_fault (map title_read l.titles) (rows_left l.rows) ≡ first_fault (map title_read l.titles) (rows_left l.fn.rows);
}

abbrev pub decreases-loop-row : goal.decreases-loop-row
decreases-loop-row l = length (rows_left l.rows)
