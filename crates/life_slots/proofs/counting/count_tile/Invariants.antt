use Rattle.std.proofs.Common.{◌≡◌, ℤ, ◌*◌, ◌≤◌, length}
use Rattle.life_slots.specs.Cells.{block_cells}
use Rattle.life_slots.proofs.counting.count_tile.Given as goal

abbrev pub invariant-loop-band : goal.invariant-loop-band
invariant-loop-band l = record {
  few : l.count ≤ 512 * l.band;
  counted : (left top : ℤ) → l.count ≡ length (block_cells left top l.tile.rows (8 * l.band));
}
