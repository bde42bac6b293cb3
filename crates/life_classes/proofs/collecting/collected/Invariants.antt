use Rattle.std.proofs.Common.{◌≡◌}
use Rattle.life_classes.specs.Grouped.{kept_classes}
use Rattle.life_classes.proofs.collecting.collected.Given as goal

abbrev pub invariant-loop-n : goal.invariant-loop-n
invariant-loop-n l = l.all.items ≡ kept_classes l.first l.last l.forest l.n
