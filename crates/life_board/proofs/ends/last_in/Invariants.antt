use Rattle.life_board.specs.Squares.{IsVoidOutside}
use Rattle.life_board.proofs.ends.last_in.Given as goal

abbrev pub invariant-loop-y : goal.invariant-loop-y
invariant-loop-y l = IsVoidOutside l.tile.rows l.first l.y

abbrev pub decreases-loop-y : goal.decreases-loop-y
decreases-loop-y l = l.y
