use Rattle.std.proofs.Common.{ℕ, ◌<◌, slice_index_or}
use Rattle.life_model.specs.Cell.{Cell}
use Rattle.life_apart.specs.Bounds.{IsInBounds}
use Rattle.life_apart.proofs.clearance.bounds_of.Given as goal

-- the cells so far are in the box
abbrev pub invariant-loop-cell : goal.invariant-loop-cell
invariant-loop-cell l = (k : ℕ) (d : Cell) → k < l.cell-index → IsInBounds l.bounds (slice_index_or l.cell-items k d)
