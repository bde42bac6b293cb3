use Rattle.std.proofs.Common.{ap, ◌∙◌, arith}
use Rattle.life_model.specs.Generation.{size}
use Rattle.life_model.proofs.Lists.{size-moved}
use Rattle.life_ash.proofs.again.are_moved.Goals as goal

pub returns-then-population : goal.returns-then-population
returns-then-population g c d moved =
    let same = ap size moved ∙ size-moved (g.P.Plane.members c.args.first.now) d in
    let one = c.population.ensures in
    let other = c.population-2.ensures in
    let differ = c.if-population.true in
    absurd (omega arith)
