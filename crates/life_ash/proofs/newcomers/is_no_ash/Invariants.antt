use Rattle.std.proofs.Common.{◌≡◌, ◌+◌}
use Rattle.life_model.specs.Evolution.{generation}
use Rattle.life_ash.proofs.newcomers.is_no_ash.Given as goal

-- the later plane has made `counter` steps since the bound
abbrev pub invariant-loop : goal.invariant-loop
invariant-loop g l = record {
  members : g.P.Plane.members l.later ≡ generation l.known.rule (g.P.Plane.members l.plane) l.counter;
  aged : g.P.Plane.steps_made l.later ≡ g.P.Plane.steps_made l.plane + l.counter;
}

-- what is known has its rule and its bound still
abbrev pub invariant-loop-followed : goal.invariant-loop-followed
invariant-loop-followed g l = l.known ≡ l.initial.known
