-- The cells that the loop has come to stand in the square.
use Rattle.std.proofs.Common.{take}
use Rattle.life_advance.specs.Leaps.Sites.{AreInside}
use Rattle.life_advance.proofs.leaps.building.are_in.Given as goal

abbrev pub invariant-loop-cell : goal.invariant-loop-cell
invariant-loop-cell l = AreInside l.site (take l.cell-index l.cells)
