use Rattle.life_islands.specs.Labels.{AreJoinedFurther}
use Rattle.life_islands.proofs.Ended.{AreFirsts, KeepsEndsTied}
use Rattle.life_islands.proofs.ends.join_ends.Given as goal

abbrev pub invariant-loop-n : goal.invariant-loop-n
invariant-loop-n l = record {
  further : AreJoinedFurther l.fn.ends l.ends l.joined;
  firsts : AreFirsts l.count l.marks.items l.n l.firsts.items l.ends.forest.items;
  tied : KeepsEndsTied l.fn.ends.labels.items l.fn.ends.forest.items l.ends.forest.items;
}
