use Rattle.std.proofs.Common.{ℕ, ◌<◌, slice_index_or}
use Rattle.life_model.specs.Cell.{Cell}
use Rattle.life_orbit.specs.Hulls.{IsInHull, IsPartOf}
use Rattle.life_orbit.proofs.hull.with_cells.Given as goal

-- the hull has the cells before this one, and all that it had at first
abbrev pub invariant-loop-cell : goal.invariant-loop-cell
invariant-loop-cell l = record {
  cells : (k : ℕ) (d : Cell) → k < l.cell-index → IsInHull l.wider (slice_index_or l.cells k d);
  wider : IsPartOf l.fn.hull l.wider;
}
