use Rattle.std.proofs.Common.{◌≡◌, ◌≤◌, take}
use Rattle.census_readback.specs.Shapes.{any_outcome, lines_that}
use Rattle.census_compare.specs.Notes.{has_code}
use Rattle.census_compare.proofs.notes.counts_of.Given as goal

abbrev pub invariant-loop-index : goal.invariant-loop-index
invariant-loop-index l = record {
  compared : l.compared ≡ lines_that has_code (take l.index l.rows);
  all : l.all ≡ lines_that any_outcome (take l.index l.rows);
  few : l.compared ≤ l.index;
  few_all : l.all ≤ l.index;
}
