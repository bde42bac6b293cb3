use Rattle.std.proofs.Common.{subst}
use Rattle.std.specs.Bool.{OnTrue}
use Rattle.life_model.specs.Rule.{Rule}
use Rattle.life_objects.specs.Whole.{StaysWhole}
use Rattle.life_census.proofs.OneIsland.{one_island_never_grows}
use Rattle.life_census.proofs.island.stays_one_island.Goals as goal

pub returns : goal.returns
returns g c =
    let R = c.args.rule.now in
    let H = g.P.Plane.members c.in_ok-later.later in
    one_island_never_grows R c.args.horizon (g.P.Plane.members c.args.plane.now)
    (subst (λ K. StaysWhole R 0 K K) c.in_ok-later.ensures
    (subst (λ t. OnTrue t ((S : Rule) → StaysWhole S 0 H H)) c.if-not-is_one.false c.in_ok-is_one.ensures R))
