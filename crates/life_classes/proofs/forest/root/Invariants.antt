use Rattle.std.proofs.Common.{◌≡◌, ◌≤◌}
use Rattle.life_classes.specs.Forest.{root}
use Rattle.life_classes.proofs.forest.root.Given as goal

abbrev pub invariant-loop-at : goal.invariant-loop-at
invariant-loop-at l = record {
  same : root l.forest l.at ≡ root l.forest l.number;
  less : l.at ≤ l.number;
}

abbrev pub decreases-loop-at : goal.decreases-loop-at
decreases-loop-at l = l.at
