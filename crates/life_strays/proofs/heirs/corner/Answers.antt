use Rattle.std.proofs.Common.{arith}
use Rattle.std.proofs.lemmas.Int.{ints}
use Rattle.life_model.proofs.Cells.{pair}
use Rattle.life_strays.proofs.heirs.corner.Goals as goal

pub returns : goal.returns
returns c = pair (omega (arith, ints)) (omega (arith, ints))
