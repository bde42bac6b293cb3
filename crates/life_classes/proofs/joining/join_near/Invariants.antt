use Rattle.std.proofs.Common.{◌≤◌, length}
use Rattle.life_classes.specs.Ties.{AreTiedUpTo, IsTied}
use Rattle.life_classes.proofs.joining.join_near.Given as goal

abbrev pub invariant-loop-n : goal.invariant-loop-n
invariant-loop-n l = record {
  above : l.cursors.above ≤ length l.cells.tags.items;
  further : l.cursors.further ≤ length l.cells.tags.items;
  tied : IsTied l.cells l.fn.forest.items l.forest.items;
  all : AreTiedUpTo l.cells.tags.items l.forest.items l.n;
}
