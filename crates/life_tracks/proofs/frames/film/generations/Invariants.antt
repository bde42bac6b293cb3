use Rattle.std.proofs.Common.{◌≡◌, ◌+◌}
use Rattle.life_model.specs.Evolution.{generation}
use Rattle.life_tracks.specs.Frames.Frames.{AreGenerations}
use Rattle.life_tracks.proofs.frames.film.generations.Given as goal

abbrev pub invariant-loop : goal.invariant-loop
invariant-loop g l = record {
  members : g.P.Plane.members l.later ≡ generation l.rule (g.P.Plane.members l.fn.plane) l.counter;
  aged : g.P.Plane.steps_made l.later ≡ g.P.Plane.steps_made l.fn.plane + l.counter;
  made : AreGenerations l.rule (g.P.Plane.members l.fn.plane) (l.counter + 1) l.all.items;
}
