use Rattle.std.proofs.Common.{◌≡◌, take}
use Rattle.life_model.specs.Generation.{cells}
use Rattle.life_classes.specs.Grouped.{by_roots, lists_of}
use Rattle.life_classes.proofs.collecting.groups.Given as goal

-- the cells looked at are in the lists of their roots
abbrev pub invariant-loop-n : goal.invariant-loop-n
invariant-loop-n l = lists_of l.all.items ≡ by_roots (take l.n (cells l.cells.cells)) l.cells.tags.items l.forest
