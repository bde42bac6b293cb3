use Rattle.life_board.specs.Squares.{IsRange}
use Rattle.life_board.proofs.placing.corner_around.Given as goal

abbrev pub invariant-loop-cell : goal.invariant-loop-cell
invariant-loop-cell l = record {
  columns : IsRange l.columns;
}
