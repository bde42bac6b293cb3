use Rattle.life_plane.proofs.Polynomials.{four_summed}
use Rattle.life_plane.proofs.logic.four_coefficients.Goals as goal

pub returns : goal.returns
returns c = four_summed c.args.words
