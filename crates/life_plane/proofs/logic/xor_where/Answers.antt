use Rattle.life_plane.proofs.Polynomials.{turned_at}
use Rattle.life_plane.proofs.logic.xor_where.Goals as goal

pub returns : goal.returns
returns c = λ j. turned_at c.args.bit c.args.word c.args.more j
