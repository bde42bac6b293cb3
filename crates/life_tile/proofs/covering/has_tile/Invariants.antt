use Rattle.std.proofs.Common.{◌≡◌, ℕ, pos, ◌+ℤ◌, ◌<◌}
use Rattle.life_model.specs.Cell.{plus, opposite}
use Rattle.life_plane.specs.Area.{tile_cell}
use Rattle.life_slots.specs.Ends.{IsMember}
use Rattle.life_tile.specs.TileStores.{members_of}
use Rattle.life_tile.proofs.covering.has_tile.Given as goal

-- the live cells of the rows before this one, moved, are in the store
abbrev pub invariant-loop-y : goal.invariant-loop-y
invariant-loop-y l = (v : ℕ) → v < l.y → (x : ℕ) → x < 64 → tile_cell l.tile x v ≡ 1 →
    IsMember (members_of l.store) (plus (l.corner.0 +ℤ pos x, l.corner.1 +ℤ pos v) (plus l.to (opposite l.from)))
