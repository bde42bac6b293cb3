use Rattle.std.proofs.Common.{◌≡◌, map, take}
use Rattle.life_model.specs.Symmetry.{turn}
use Rattle.life_cells.specs.Orients.{orientation}
use Rattle.life_cells.proofs.shape.turned_cells.Given as goal

abbrev pub invariant-loop-cell : goal.invariant-loop-cell
invariant-loop-cell l = l.turned.items ≡ map (turn (orientation l.orient)) (take l.cell-index l.cells)
