use Rattle.std.proofs.Common.{◌≡◌, ◌≤◌, ◌<◌, length}
use Rattle.std.specs.List.{All}
use Rattle.life_model.specs.Generation.{cells}
use Rattle.life_classes.specs.Labels.{AreBornOrOld, AreHeirs}
use Rattle.life_classes.specs.Tags.{AreNumbersOf}
use Rattle.life_classes.proofs.inheriting.inherited.Given as goal

abbrev pub invariant-loop-cell : goal.invariant-loop-cell
invariant-loop-cell l = record {
  level : l.cursors.level ≤ length l.old.tags.items;
  above : l.cursors.above ≤ length l.old.tags.items;
  below : l.cursors.below ≤ length l.old.tags.items;
  count : length l.tags.items ≡ l.cell-index;
  numbers : AreNumbersOf (cells l.fn.cells) l.cell-index l.tags.items;
  within : All (λ t. t.label < length l.forest) l.tags.items;
  born : AreBornOrOld l.old (cells l.fn.cells) l.cell-index l.born.items;
  inside : All (λ k. k < l.cell-index) l.born.items;
  heirs : AreHeirs l.old l.forest (cells l.fn.cells) l.cell-index l.tags.items;
}
