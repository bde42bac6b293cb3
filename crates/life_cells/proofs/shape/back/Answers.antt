use Rattle.std.proofs.Common.{arith}
use Rattle.std.proofs.lemmas.Int.{ints, to_z-of_z}
use Rattle.life_model.proofs.Cells.{pair}
use Rattle.life_cells.proofs.shape.back.Goals as goal

pub returns : goal.returns
returns c = pair (grind (arith, ints, to_z-of_z)) (grind (arith, ints, to_z-of_z))
