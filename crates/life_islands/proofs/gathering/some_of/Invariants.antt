use Rattle.std.proofs.Common.{◌≡◌}
use Rattle.life_classes.specs.Grouped.{lists_of}
use Rattle.life_islands.specs.Collected.{some_of}
use Rattle.life_islands.proofs.gathering.some_of.Given as goal

abbrev pub invariant-loop-cells : goal.invariant-loop-cells
invariant-loop-cells l = l.sets.items ≡ some_of (lists_of l.yielded)
