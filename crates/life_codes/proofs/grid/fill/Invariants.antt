use Rattle.std.proofs.Common.{map, take}
use Rattle.life_cells.specs.Orients.{orientation}
use Rattle.life_codes.specs.Lengths.Frames.{cell_in_frame, strips_of, wide_of}
use Rattle.life_codes.specs.Lengths.Grids.{HoldsWeights}
use Rattle.life_codes.proofs.grid.fill.Given as goal

-- the grid holds what the cells so far weigh
abbrev pub invariant-loop-cell : goal.invariant-loop-cell
invariant-loop-cell l = HoldsWeights l.values (wide_of l.frame) (strips_of l.frame) (map (cell_in_frame (orientation l.orient) l.frame) (take l.cell-index l.cells))
