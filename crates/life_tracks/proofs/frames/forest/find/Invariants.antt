use Rattle.std.proofs.Common.{◌≡◌, ◌≤◌}
use Rattle.life_classes.specs.Forest.{root}
use Rattle.life_tracks.specs.Frames.Ties.{AreSameRoots}
use Rattle.life_tracks.proofs.frames.forest.find.Given as goal

-- the number that is reached has the same root
abbrev pub invariant-loop-at : goal.invariant-loop-at
invariant-loop-at l = record {
  roots : AreSameRoots l.fn.forest.items l.forest.items;
  one : root l.fn.forest.items l.at ≡ root l.fn.forest.items l.number;
  less : l.at ≤ l.number;
}

abbrev pub decreases-loop-at : goal.decreases-loop-at
decreases-loop-at l = l.at
