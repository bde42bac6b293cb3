use Rattle.std.proofs.Common.{◌≡◌, ◌≤◌, length}
use Rattle.life_model.specs.Generation.{cells}
use Rattle.life_classes.specs.Parted.{AreLabelsOr}
use Rattle.life_classes.specs.Tags.{AreNumbersOf}
use Rattle.life_classes.proofs.relabelling.relabelled.Given as goal

abbrev pub invariant-loop-cell : goal.invariant-loop-cell
invariant-loop-cell l = record {
  within : l.cursor ≤ length l.from.tags.items;
  count : length l.tags.items ≡ l.cell-index;
  numbers : AreNumbersOf (cells l.fn.cells) l.cell-index l.tags.items;
  labels : AreLabelsOr l.from l.other (cells l.fn.cells) l.cell-index l.tags.items;
}
