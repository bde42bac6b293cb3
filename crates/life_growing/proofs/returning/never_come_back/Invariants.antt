use Rattle.std.proofs.Common.{◌≡◌, ◌+◌, ◌≤◌}
use Rattle.life_model.specs.Evolution.{generation}
use Rattle.life_growth.specs.Engine.{IsEngine, Way}
use Rattle.life_growing.proofs.returning.never_come_back.Given as goal

-- no engine has a period up to here
abbrev pub invariant-loop-n : goal.invariant-loop-n
invariant-loop-n g l = record {
  members : g.P.Plane.members l.plane ≡ generation l.rule l.cells l.n;
  aged : g.P.Plane.steps_made l.plane ≡ l.age + l.n;
  none : (way : Way) → way.period ≤ l.n → IsEngine l.rule l.bound l.cells way → ⊥;
}
