use Rattle.life_plane.proofs.Polynomials.{all_summed}
use Rattle.life_plane.proofs.logic.coefficients.Goals as goal

pub returns : goal.returns
returns c = λ j number few.
    all_summed c.args.words.now c.four_coefficients-low.result c.four_coefficients-high.result j number few (c.four_coefficients-low.ensures j) (c.four_coefficients-high.ensures j)
