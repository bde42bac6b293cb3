use Rattle.std.proofs.Common.{◌-◌, ◌≤◌}
use Rattle.life_board.specs.Squares.{IsVoidOutside}
use Rattle.life_board.proofs.rows.first_row.Given as goal

abbrev pub invariant-loop-y : goal.invariant-loop-y
invariant-loop-y l = record {
  from : l.first ≤ l.y;
  void : IsVoidOutside l.tile.rows l.y l.end;
}

abbrev pub decreases-loop-y : goal.decreases-loop-y
decreases-loop-y l = l.end - l.y
