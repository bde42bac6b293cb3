use Rattle.std.proofs.Common.{sym, ap, ◌∙◌, arith}
use Rattle.life_model.specs.Evolution.{generation}
use Rattle.life_model.specs.Generation.{size}
use Rattle.life_ash.proofs.Growing.{allowed_on}
use Rattle.life_ash.proofs.limit.few_until.Goals as goal

pub returns-clause-few : goal.returns-clause-few
returns-clause-few g c R G reached before known =
    let least = c.min.ensures in
    allowed_on R G c.args.limit c.args.age c.few_for-more.result c.min.result before
    (c.few_for-more.ensures.few R (generation R G c.args.age)
    (ap size (sym reached) ∙ sym c.population-population.ensures)) (omega arith)
