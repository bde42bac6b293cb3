use Rattle.std.proofs.Common.{◌≡◌, take}
use Rattle.life_classes.specs.Grouped.{lists_of}
use Rattle.life_islands.specs.Collected.{by_roots}
use Rattle.life_islands.proofs.gathering.by_root.Given as goal

abbrev pub invariant-loop-n : goal.invariant-loop-n
invariant-loop-n l = lists_of l.lists.items ≡ by_roots l.cells l.forest (take l.n l.cells)
