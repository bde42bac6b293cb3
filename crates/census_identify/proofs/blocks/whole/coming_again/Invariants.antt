use Rattle.std.proofs.Common.{◌≡◌, ◌+◌}
use Rattle.life_model.specs.Evolution.{generation}
use Rattle.census_identify.proofs.BlocksLemmas.Returning.{IsAway}
use Rattle.census_identify.proofs.blocks.whole.coming_again.Given as goal

abbrev pub invariant-loop-steps : goal.invariant-loop-steps
invariant-loop-steps g l =
    let start = g.P.Plane.members l.fn.plane in
    record {
      there : g.P.Plane.members l.plane ≡ generation l.rule start l.steps;
      aged : g.P.Plane.steps_made l.plane ≡ g.P.Plane.steps_made l.fn.plane + l.steps;
      away : IsAway l.rule start l.steps;
    }
