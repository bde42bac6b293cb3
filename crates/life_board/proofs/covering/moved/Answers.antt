use Rattle.std.proofs.Common.{arith}
use Rattle.std.proofs.lemmas.Int.{ints}
use Rattle.life_model.proofs.Cells.{pair}
use Rattle.life_board.proofs.covering.moved.Goals as goal

pub returns-clause-is : goal.returns-clause-is
returns-clause-is c = pair (omega (arith, ints)) (omega (arith, ints))

pub returns-clause-reach : goal.returns-clause-reach
returns-clause-reach c = record { west = omega (arith, ints); east = omega (arith, ints); north = omega (arith, ints); south = omega (arith, ints) }
