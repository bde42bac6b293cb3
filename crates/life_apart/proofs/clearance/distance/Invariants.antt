use Rattle.std.proofs.Common.{ℕ, ◌<◌, ◌^◌, pos, ◌≤ℤ◌, slice_index_or}
use Rattle.life_model.specs.Cell.{Cell}
use Rattle.life_apart.proofs.Boxes.{IsOwnOrFarOff}
use Rattle.life_apart.proofs.clearance.distance.Given as goal

-- each cell so far is in the set, or at least as far off as `least`
abbrev pub invariant-loop-cell : goal.invariant-loop-cell
invariant-loop-cell l = record {
  most : l.least ≤ℤ pos (2 ^ 20);
  known : (k : ℕ) (d : Cell) → k < l.cell-index →
      IsOwnOrFarOff l.set l.bounds l.least (slice_index_or l.cell-items k d);
}
