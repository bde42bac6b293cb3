use Rattle.std.proofs.Common.{ℕ, pos, ◌+ℤ◌, ◌<◌, slice_index}
use Rattle.life_tile.specs.Standing.{HasNoneInRow}
use Rattle.life_tile.specs.TileStores.{members_of}
use Rattle.life_tile.proofs.standing.may_stand_in_tile.Given as goal

-- the cells are not in the rows before this one
abbrev pub invariant-loop-y : goal.invariant-loop-y
invariant-loop-y l = (v : ℕ) → v < l.y → HasNoneInRow (members_of l.store) l.cells l.lead (slice_index l.tile.rows v) (l.corner.0, l.corner.1 +ℤ pos v)
