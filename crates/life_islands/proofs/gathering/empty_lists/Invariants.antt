use Rattle.std.proofs.Common.{◌≡◌, [], replicate}
use Rattle.life_classes.specs.Grouped.{lists_of}
use Rattle.life_islands.proofs.gathering.empty_lists.Given as goal

abbrev pub invariant-loop : goal.invariant-loop
invariant-loop l = lists_of l.lists.items ≡ replicate l.counter []
