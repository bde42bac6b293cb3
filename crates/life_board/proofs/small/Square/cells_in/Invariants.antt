use Rattle.std.proofs.Common.{◌≡◌, ◌≤◌, reverse}
use Rattle.life_slots.specs.Cells.{block_cells}
use Rattle.life_board.proofs.small.Square.cells_in.Given as goal

abbrev pub invariant-loop-y : goal.invariant-loop-y
invariant-loop-y l = record {
  inside : l.y ≤ l.self.end;
  pushed : l.cells.items ≡ reverse (block_cells l.self.left l.self.top l.self.tile.rows l.y);
}
