use Rattle.std.proofs.Common.{◌<◌, ◌∙◌, arith}
use Rattle.life_plane.specs.Logics.{term_at}
use Rattle.life_plane.proofs.Polynomials.{same_sum}
use Rattle.life_plane.proofs.logic.RulePolynomial.of.Goals as goal

pub returns : goal.returns
returns c = record {
  dead = λ number j few below.
      let past = c.loop-number-test.false in
      let inside : number < c.loop-number.number = omega arith in
      same_sum (term_at c.between.result 0 j) _ (λ n less. c.between.ensures.dead j n less) number
      ∙ c.coefficients.ensures j number few
      ∙ c.loop-number.invariant.dead number inside j below;
  live = λ number j few below.
      let past = c.loop-number-test.false in
      let inside : number < c.loop-number.number = omega arith in
      same_sum (term_at c.between.result 1 j) _ (λ n less. c.between.ensures.live j n less) number
      ∙ c.coefficients-2.ensures j number few
      ∙ c.loop-number.invariant.live number inside j below;
}
