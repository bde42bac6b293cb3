use Rattle.std.proofs.Common.{◌≤◌, length}
use Rattle.life_classes.specs.Ties.{IsTied}
use Rattle.life_classes.proofs.Born.{AreTiedAbout}
use Rattle.life_classes.proofs.joining.join_born.Given as goal

abbrev pub invariant-loop-n : goal.invariant-loop-n
invariant-loop-n l = record {
  above : l.above.above ≤ length l.cells.tags.items;
  further : l.above.further ≤ length l.cells.tags.items;
  below : l.below.below ≤ length l.cells.tags.items;
  beyond : l.below.beyond ≤ length l.cells.tags.items;
  tied : IsTied l.cells l.fn.forest.items l.forest.items;
  all : AreTiedAbout l.cells.tags.items l.forest.items l.born l.n-index;
}
