use Rattle.std.proofs.Common.{arith}
use Rattle.life_census.proofs.growing.growth_at.Goals as goal

pub growth_up_to-requires-clause-age : goal.growth_up_to-requires-clause-age
growth_up_to-requires-clause-age g c =
    let age = c.requires.age.1 in
    let aged = c.in_ok-plane.ensures.age in
    let least = c.min.ensures in
    let horizon = c.requires.horizon.1 in
    omega arith
