use Rattle.std.proofs.Common.{◌*◌, ◌≤◌}
use Rattle.life_slots.specs.Cells.{IsCountFrom}
use Rattle.life_slots.proofs.counting.count_rows.Given as goal

abbrev pub invariant-loop-y : goal.invariant-loop-y
invariant-loop-y l = record {
  few : l.count ≤ 64 * l.y;
  counted : IsCountFrom l.tile.rows (record { from = l.top; height = l.y; cells = l.count });
}
