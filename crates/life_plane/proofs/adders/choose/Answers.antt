use Rattle.life_plane.proofs.BitSums.{choose_at}
use Rattle.life_plane.proofs.adders.choose.Goals as goal

pub returns : goal.returns
returns c = λ j. choose_at c.args.bit c.args.low c.args.high j
