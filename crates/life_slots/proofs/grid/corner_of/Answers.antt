use Rattle.std.proofs.Common.{arith}
use Rattle.std.proofs.lemmas.Int.{ints}
use Rattle.life_model.proofs.Cells.{pair}
use Rattle.life_slots.proofs.grid.corner_of.Goals as goal

pub returns : goal.returns
returns c =
    let here = c.requires in
    pair (omega (arith, ints, here.west, here.east)) (omega (arith, ints, here.north, here.south))
