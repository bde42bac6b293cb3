use Rattle.std.proofs.Common.{◌≡◌, ℕ, ◌<◌, false, get_or}
use Rattle.life_model.specs.Cell.{Cell}
use Rattle.life_model.specs.Generation.{cells}
use Rattle.life_islands.specs.Labels.{AreJoinedFurther, KeepsTied, sets_of}
use Rattle.life_islands.specs.Splits.{IsSettledNear}
use Rattle.life_islands.proofs.places.join_places.Given as goal

abbrev pub invariant-loop-n : goal.invariant-loop-n
invariant-loop-n l = record {
  further : AreJoinedFurther l.fn.sets l.sets l.joined;
  tied : KeepsTied l.rule l.list l.fn.sets l.sets;
  settled : l.joined ≡ false → (k : ℕ) (d : Cell) → k < l.n → IsSettledNear l.rule l.list (sets_of l.list l.sets) (get_or (cells l.list) k d);
}
