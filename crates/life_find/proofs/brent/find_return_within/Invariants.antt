use Rattle.std.proofs.Common.{◌≡◌, ◌-◌, ◌≤◌, length}
use Rattle.life_model.specs.Evolution.{generation}
use Rattle.life_find.specs.Search.{AreFingerprints}
use Rattle.life_find.proofs.brent.find_return_within.Given as goal

abbrev pub invariant-anchors : goal.invariant-anchors
invariant-anchors g l = record {
  later : 1 ≤ l.onset;
  within : l.onset ≤ l.bound;
  there : g.P.Plane.members l.runner ≡ generation l.rule l.cells l.onset;
  aged : g.P.Plane.steps_made l.runner ≡ l.onset;
  counted : length l.fingerprints.items ≡ l.onset;
  fingerprints : AreFingerprints l.rule l.cells l.fingerprints.items;
}

abbrev pub decreases-anchors : goal.decreases-anchors
decreases-anchors g l = l.bound - l.onset
