use Rattle.std.proofs.Common.{ℕ, ◌<◌}
use Rattle.life_slots.specs.Slots.{place_of, tile_of}
use Rattle.life_tile.specs.Reach.{corner_at}
use Rattle.life_tile.specs.Standing.{HasNoneInTile}
use Rattle.life_tile.specs.TileStores.{members_of}
use Rattle.life_tile.proofs.standing.may_stand.Given as goal

-- the cells are not in the tiles before this one
abbrev pub invariant-loop-slot : goal.invariant-loop-slot
invariant-loop-slot l = (k : ℕ) → k < l.slot → 0 < k →
    HasNoneInTile l.reach (members_of l.store) l.cells l.lead (tile_of l.store.current.items k) (corner_at (place_of l.store.slots.items k))
