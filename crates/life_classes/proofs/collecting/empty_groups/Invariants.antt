use Rattle.std.proofs.Common.{◌≡◌, [], replicate}
use Rattle.life_classes.specs.Grouped.{lists_of}
use Rattle.life_classes.proofs.collecting.empty_groups.Given as goal

abbrev pub invariant-loop : goal.invariant-loop
invariant-loop l = lists_of l.all.items ≡ replicate l.counter []
