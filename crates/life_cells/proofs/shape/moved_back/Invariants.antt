use Rattle.std.proofs.Common.{◌≡◌, map, take}
use Rattle.life_model.specs.Cell.{opposite, plus}
use Rattle.life_cells.proofs.shape.moved_back.Given as goal

abbrev pub invariant-loop-cell : goal.invariant-loop-cell
invariant-loop-cell l = l.moved.items ≡ map (λ c. plus c (opposite l.corner)) (take l.cell-index l.cells)
