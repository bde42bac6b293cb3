use Rattle.std.proofs.Common.{ℕ, ◌<◌, slice_index_or}
use Rattle.life_model.specs.Cell.{Cell, plus}
use Rattle.life_orbit.specs.Clear.{IsClearOf}
use Rattle.life_orbit.proofs.near.each_is_clear.Given as goal

-- the cells before this one are near none of the others
abbrev pub invariant-loop-cell : goal.invariant-loop-cell
invariant-loop-cell l =
    (k : ℕ) (d : Cell) → k < l.cell-index → IsClearOf (plus (slice_index_or l.cells k d) l.by) l.others
