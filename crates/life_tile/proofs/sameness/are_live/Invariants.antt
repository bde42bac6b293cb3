use Rattle.std.proofs.Common.{ℕ, ◌<◌, slice_index_or}
use Rattle.life_model.specs.Cell.{Cell, opposite, plus}
use Rattle.life_slots.specs.Ends.{IsMember}
use Rattle.life_tile.specs.TileStores.{members_of}
use Rattle.life_tile.proofs.sameness.are_live.Given as goal

-- the cells before this one, moved, are live
abbrev pub invariant-loop-cell : goal.invariant-loop-cell
invariant-loop-cell l = (k : ℕ) (d : Cell) → k < l.cell-index → IsMember (members_of l.store) (plus (slice_index_or l.cells k d) (plus l.to (opposite l.from)))
