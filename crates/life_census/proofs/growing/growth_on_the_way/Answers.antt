use Rattle.std.proofs.Common.{ap, arith}
use Rattle.life_answer.specs.Growing.{allowed_bound}
use Rattle.life_ash.proofs.Finding.{of_some}
use Rattle.life_census.specs.Grown.{IsSeenWithin}
use Rattle.life_census.proofs.Early.{grown_early}
use Rattle.life_census.proofs.growing.growth_on_the_way.Goals as goal

pub returns : goal.returns
returns g c b by_then =
    let R = c.args.rule.now in
    let G = c.args.cells.now in
    let H = g.P.Plane.members c.args.plane.now in
    let age = g.P.Plane.steps_made c.args.plane.now in
    let aged = c.age-age.ensures.age in
    let least = c.min.ensures in
    let some = c.requires.age.0 in
    let not_less = c.if-branch-age.false in
    let found = c.in_ok-allowed_bound.ensures in
    let same = ap (allowed_bound c.args.limit R G) aged in
    grown_early R G H c.args.limit age b c.args.horizon c.min.result c.in-Some.growth some by_then (omega arith) c.requires.cells
    (omega arith) (omega arith) (of_some (IsSeenWithin R c.min.result H) c.in-Some.is c.in_ok-growth.ensures)
