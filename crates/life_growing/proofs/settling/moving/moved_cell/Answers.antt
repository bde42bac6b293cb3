use Rattle.std.proofs.Common.{arith}
use Rattle.std.proofs.lemmas.Int.{ints}
use Rattle.life_model.proofs.Cells.{pair}
use Rattle.life_growing.proofs.settling.moving.moved_cell.Goals as goal

pub returns-clause-moved : goal.returns-clause-moved
returns-clause-moved c = pair (omega (arith, ints)) (omega (arith, ints))
