use Rattle.std.proofs.Common.{◌≡◌, ◌+◌, cond, false}
use Rattle.std.specs.List.{sum}
use Rattle.life_islands.specs.Split.Rounds.{AreJoinedTied, AreParted}
use Rattle.life_islands.proofs.split.rounds.joined_for_good.Given as goal

abbrev pub invariant-loop-one : goal.invariant-loop-one
invariant-loop-one l = record {
  tied : AreJoinedTied l.orbit.rule l.orbit.set l.one.forest.items;
  parted : l.one.is_joined ≡ false → AreParted l.orbit.rule l.orbit.set l.one.forest.items;
}

abbrev pub decreases-loop-one : goal.decreases-loop-one
decreases-loop-one l = sum l.one.forest.items + cond l.one.is_joined 1 0
