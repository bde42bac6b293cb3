use Rattle.std.proofs.Common.{◌≡◌, map, take}
use Rattle.life_classes.specs.Forest.{root}
use Rattle.life_islands.proofs.ends.marks.Given as goal

abbrev pub invariant-loop-label : goal.invariant-loop-label
invariant-loop-label l = l.all.items ≡ map (root l.ends.forest.items) (take l.label-index l.label-items)
