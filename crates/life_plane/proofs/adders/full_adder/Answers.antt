use Rattle.life_plane.proofs.BitSums.{add_three_at}
use Rattle.life_plane.proofs.adders.full_adder.Goals as goal

pub returns : goal.returns
returns c = λ j. add_three_at c.args.a c.args.b c.args.c j
