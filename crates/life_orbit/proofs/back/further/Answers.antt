use Rattle.std.proofs.Common.{arith}
use Rattle.std.proofs.lemmas.Int.{ints}
use Rattle.life_model.proofs.Cells.{pair}
use Rattle.life_orbit.proofs.back.further.Goals as goal

pub returns-clause-value : goal.returns-clause-value
returns-clause-value c =
    let reach = c.requires.reach in
    let other_reach = c.requires.other_reach in
    pair (omega (arith, ints)) (omega (arith, ints))
