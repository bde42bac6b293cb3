use Rattle.std.proofs.Common.{◌≡◌, ◌-◌, ◌++◌, w64, reverse}
use Rattle.std.specs.Int.{trailing_zeros}
use Rattle.life_slots.specs.Cells.{row_cells}
use Rattle.life_slots.proofs.Lowest.{IsRest}
use Rattle.life_slots.proofs.listing.push_row.Given as goal

abbrev pub invariant-loop-rest : goal.invariant-loop-rest
invariant-loop-rest l = record {
  same : IsRest l.word l.rest;
  pushed : l.cells.items ≡ l.initial.cells.items ++ reverse (row_cells l.left l.y l.word (trailing_zeros w64 l.rest));
}

abbrev pub decreases-loop-rest : goal.decreases-loop-rest
decreases-loop-rest l = 64 - trailing_zeros w64 l.rest
