use Rattle.std.specs.List.{sum}
use Rattle.life_islands.specs.Labels.{AreJoinedFurther, KeepsTied, sets_of}
use Rattle.life_islands.specs.Splits.{AreOfWholeIslands}
use Rattle.life_islands.proofs.places.join_in.Given as goal

abbrev pub invariant-loop-joined : goal.invariant-loop-joined
invariant-loop-joined l = record {
  further : AreJoinedFurther l.fn.sets l.sets l.joined;
  tied : KeepsTied l.rule l.list l.fn.sets l.sets;
  whole : AreOfWholeIslands l.list (sets_of l.list l.sets);
}

abbrev pub decreases-loop-joined : goal.decreases-loop-joined
decreases-loop-joined l = sum l.sets.forest.items
