use Rattle.std.proofs.Common.{◌≡◌, length}
use Rattle.life_classes.specs.Tags.{AreNumbersOf, AreOwnLabels}
use Rattle.life_classes.proofs.tags.tagged.Given as goal

abbrev pub invariant-loop-label : goal.invariant-loop-label
invariant-loop-label l = record {
  count : length l.tags.items ≡ l.label;
  numbers : AreNumbersOf l.cells l.label l.tags.items;
  own : AreOwnLabels l.label l.tags.items;
}
