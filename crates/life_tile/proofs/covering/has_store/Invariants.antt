use Rattle.std.proofs.Common.{ℕ, ◌<◌}
use Rattle.life_model.specs.Cell.{plus, opposite}
use Rattle.life_slots.specs.Slots.{place_of, tile_of}
use Rattle.life_tile.specs.Reach.{corner_at, IsTileIn}
use Rattle.life_tile.specs.TileStores.{members_of}
use Rattle.life_tile.proofs.covering.has_store.Given as goal

-- the tiles before this one have all their cells, moved, in the store
abbrev pub invariant-loop-slot : goal.invariant-loop-slot
invariant-loop-slot l = (k : ℕ) → 0 < k → k < l.slot →
    IsTileIn (members_of l.store) (tile_of l.other.current.items k) (corner_at (place_of l.other.slots.items k)) (plus l.to (opposite l.from))
