use Rattle.std.proofs.Common.{◌≡◌, min, arith}
use Rattle.life_model.specs.Evolution.{generation}
use Rattle.life_answer.specs.Growing.{allowed_bound}
use Rattle.life_answer.proofs.Growing.{allowed_within, some_horizon}
use Rattle.life_census.proofs.growing.growth_within.Goals as goal

pub returns-then-allowed-eq0-clause-none : goal.returns-then-allowed-eq0-clause-none
returns-then-allowed-eq0-clause-none g c Es S growth =
    let R = c.args.rule.now in
    let G = c.args.cells.now in
    let allowed = allowed_bound c.args.limit R G c.args.bound in
    let some = some_horizon R (min c.args.horizon allowed) (generation R G allowed) S Es growth in
    let found : c.in_ok-allowed.allowed ≡ allowed = c.in_ok-allowed.ensures in
    let none = c.if-allowed-eq0.true in
    absurd (omega arith)

pub plane_at-requires-clause-age : goal.plane_at-requires-clause-age
plane_at-requires-clause-age g c =
    let within = allowed_within c.args.limit c.args.rule.now c.args.cells.now c.args.bound in
    let found = c.in_ok-allowed.ensures in
    let bound = c.requires.bound.1 in
    omega arith

pub never_grows-requires : goal.never_grows-requires
never_grows-requires g c =
    let within = allowed_within c.args.limit c.args.rule.now c.args.cells.now c.args.bound in
    let found = c.in_ok-allowed.ensures in
    let bound = c.requires.bound.1 in
    let aged = c.in_ok-plane.ensures.age in
    let least = c.min-least.ensures in
    let horizon = c.requires.horizon.1 in
    omega arith

pub growth_up_to-requires-clause-age : goal.growth_up_to-requires-clause-age
growth_up_to-requires-clause-age g c =
    let within = allowed_within c.args.limit c.args.rule.now c.args.cells.now c.args.bound in
    let found = c.in_ok-allowed.ensures in
    let bound = c.requires.bound.1 in
    let aged = c.in_ok-plane.ensures.age in
    let least = c.min-least.ensures in
    let horizon = c.requires.horizon.1 in
    omega arith
