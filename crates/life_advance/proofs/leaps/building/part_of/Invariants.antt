-- The part of those cells that the loop has come to.
use Rattle.std.proofs.Common.{take}
use Rattle.life_advance.specs.Leaps.Sites.{IsPartOf}
use Rattle.life_advance.proofs.leaps.building.part_of.Given as goal

abbrev pub invariant-loop-cell : goal.invariant-loop-cell
invariant-loop-cell l = IsPartOf (take l.cell-index l.cells) l.site l.part.items
