use Rattle.std.proofs.Common.{arith}
use Rattle.std.proofs.lemmas.Int.{ints}
use Rattle.life_model.proofs.Cells.{pair}
use Rattle.life_growing.proofs.returning.back.Goals as goal

pub returns-clause-back : goal.returns-clause-back
returns-clause-back c = pair (omega (arith, ints)) (omega (arith, ints))
