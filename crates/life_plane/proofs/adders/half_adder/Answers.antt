use Rattle.life_plane.proofs.BitSums.{add_two_at}
use Rattle.life_plane.proofs.adders.half_adder.Goals as goal

pub returns : goal.returns
returns c = λ j. add_two_at c.args.a c.args.b j
