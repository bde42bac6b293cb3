use Rattle.std.proofs.Common.{◌≡◌, ◌+◌}
use Rattle.std.specs.List.{All}
use Rattle.life_model.specs.Generation.{Generation}
use Rattle.life_model.specs.Rule.{Rule}
use Rattle.life_strays.specs.Strays.{IsIslandNow}
use Rattle.life_strays.proofs.choosing.unsettled.Given as goal

abbrev pub invariant-loop : goal.invariant-loop
invariant-loop g l = record {
  aged : g.P.Plane.steps_made l.later ≡ g.P.Plane.steps_made l.plane + l.counter;
  kept : (R : Rule) (G : Generation) → All (IsIslandNow R G) l.fn.islands.items → All (IsIslandNow R G) l.left.items;
  standing : (R : Rule) (G : Generation) → All (IsIslandNow R G) l.fn.islands.items →
      All (IsIslandNow R G) l.fn.standing.items → All (IsIslandNow R G) l.standing.items;
}
