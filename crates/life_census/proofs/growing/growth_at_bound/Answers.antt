use Rattle.life_answer.specs.Growing.{allowed_bound}
use Rattle.life_answer.proofs.Growing.{allowed_within}
use Rattle.life_ash.proofs.Finding.{of_none}
use Rattle.life_census.specs.Grown.{NeverGrowsThen}
use Rattle.life_census.proofs.Early.{never_sooner}
use Rattle.life_census.proofs.growing.growth_at_bound.Goals as goal

pub returns-in_default-clause-none : goal.returns-in_default-clause-none
returns-in_default-clause-none g c =
    let R = c.args.rule.now in
    let G = c.args.cells.now in
    let b = c.args.bound in
    let never = of_none {N = NeverGrowsThen R G b c.args.horizon} c.in_default.is c.in_ok-growth.ensures.none in
    never_sooner R G (allowed_bound c.args.limit R G b) b c.args.horizon (allowed_within c.args.limit R G b) never
