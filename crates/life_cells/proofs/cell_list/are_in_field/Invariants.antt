use Rattle.std.proofs.Common.{ℕ, ◌<◌, slice_index_or}
use Rattle.life_model.specs.Cell.{Cell}
use Rattle.life_cells.specs.Limits.{IsWithin}
use Rattle.life_cells.proofs.cell_list.are_in_field.Given as goal

-- this holds of the cells before this one
abbrev pub invariant-loop-cell : goal.invariant-loop-cell
invariant-loop-cell l = (k : ℕ) (d : Cell) → k < l.cell-index → IsWithin l.age (slice_index_or l.cells k d)
