use Rattle.std.proofs.Common.{◌≡◌, ℕ, ◌<◌}
use Rattle.life_slots.specs.Slots.{link_of, tile_of}
use Rattle.life_slots.specs.Rims.{IsStill}
use Rattle.life_tile.specs.TileStores.{IsExtended, IsKept}
use Rattle.life_tile.proofs.tile_store.TileStore.grow_around.Given as goal

abbrev pub invariant-loop-direction : goal.invariant-loop-direction
invariant-loop-direction l = record {
  kept : IsKept l.self;
  extended : IsExtended l.initial.self l.self;
  still : (m : ℕ) → m < l.direction → link_of l.self.slots.items l.slot m ≡ 0 → IsStill (tile_of l.initial.self.current.items l.slot) m;
}
