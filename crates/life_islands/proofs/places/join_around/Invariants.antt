use Rattle.std.proofs.Common.{◌≡◌, ℕ, ◌<◌, false}
use Rattle.life_model.specs.Generation.{contains}
use Rattle.life_islands.specs.Labels.{AreJoinedFurther, KeepsTied, sets_of}
use Rattle.life_islands.specs.Seats.{cell_at}
use Rattle.life_islands.specs.Splits.{IsSettled}
use Rattle.life_islands.proofs.places.join_around.Given as goal

abbrev pub invariant-loop-number : goal.invariant-loop-number
invariant-loop-number l = record {
  further : AreJoinedFurther l.fn.sets l.sets l.joined;
  tied : KeepsTied l.rule l.list l.fn.sets l.sets;
  settled : l.joined ≡ false → (k : ℕ) → k < l.number → contains l.list (cell_at l.cell k) ≡ false →
      IsSettled l.rule l.list (sets_of l.list l.sets) (cell_at l.cell k);
}
