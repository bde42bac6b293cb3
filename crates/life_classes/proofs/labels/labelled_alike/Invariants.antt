use Rattle.std.proofs.Common.{◌≡◌, length}
use Rattle.std.specs.List.{All}
use Rattle.life_model.specs.Generation.{cells}
use Rattle.life_classes.specs.Tags.{AreNumbersOf}
use Rattle.life_classes.proofs.labels.labelled_alike.Given as goal

abbrev pub invariant-loop-cell : goal.invariant-loop-cell
invariant-loop-cell l = record {
  count : length l.tags.items ≡ l.cell-index;
  numbers : AreNumbersOf (cells l.fn.cells) l.cell-index l.tags.items;
  alike : All (λ t. t.label ≡ l.label) l.tags.items;
}
