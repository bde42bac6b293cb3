use Rattle.std.proofs.Common.{◌≡◌, ℤ, ◌*◌, ◌≤◌, length}
use Rattle.life_slots.specs.Cells.{block_cells}
use Rattle.life_board.proofs.small.count_rows.Given as goal

abbrev pub invariant-loop-y : goal.invariant-loop-y
invariant-loop-y l = record {
  inside : l.y ≤ l.end;
  few : l.count ≤ 64 * l.y;
  counted : (left top : ℤ) → l.count ≡ length (block_cells left top l.tile.rows l.y);
}
