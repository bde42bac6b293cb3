use Rattle.std.proofs.Common.{◌≡◌, map, take}
use Rattle.life_cells.specs.Dots.{dot}
use Rattle.life_cells.proofs.writer.dots_of.Given as goal

abbrev pub invariant-loop-cell : goal.invariant-loop-cell
invariant-loop-cell l = l.dots.items ≡ map (dot l.strip) (take l.cell-index l.cells)
