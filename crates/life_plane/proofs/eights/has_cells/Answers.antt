use Rattle.std.proofs.Common.{◌≡◌, ◌+◌, refl, arith, below_more, slice_index}
use Rattle.life_plane.proofs.EmptyRows.{or_none_left, or_none_right, or_none}
use Rattle.life_plane.proofs.eights.has_cells.Goals as goal

pub loop-y-init : goal.loop-y-init
loop-y-init c = record {
  void = λ none k below. absurd (omega arith);
  some = λ _. refl;
}

pub loop-y-preserved : goal.loop-y-preserved
loop-y-preserved c = record {
  void = λ none.
      below_more (λ k. slice_index c.args.tile.now.rows (c.args.top + k) ≡ 0) c.loop-y.y
      (c.loop-y.invariant.void (or_none_left c.loop-y.all _ none))
      (or_none_right c.loop-y.all _ none);
  some = λ rows. or_none c.loop-y.all _ (c.loop-y.invariant.some (λ k below. rows k (omega arith))) (rows c.loop-y.y (omega arith));
}
