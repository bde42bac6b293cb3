use Rattle.std.proofs.Common.{◌≡◌, ℕ, ◌+◌, ◌<◌, slice_index_or}
use Rattle.std.specs.declared.cmp.Ordering.TheVariants.{Less}
use Rattle.life_model.specs.Cell.{Cell, cell_cmp}
use Rattle.life_cells.proofs.order.are_rising.Given as goal

-- each cell before this one is before the next
abbrev pub invariant-loop-at : goal.invariant-loop-at
invariant-loop-at l = (k : ℕ) (d : Cell) → k + 1 < l.at → cell_cmp (slice_index_or l.cells k d) (slice_index_or l.cells (k + 1) d) ≡ Less
