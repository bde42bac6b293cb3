use Rattle.std.proofs.Common.{◌≡◌, ◌+◌, length, take}
use Rattle.life_slots.specs.Cells.{live_tiles}
use Rattle.life_tile.specs.TileStores.{IsCompact}
use Rattle.life_tile.proofs.Copied.{IsCopying}
use Rattle.life_tile.proofs.tile_store.TileStore.compacted.Given as goal

abbrev pub invariant-loop-slot : goal.invariant-loop-slot
invariant-loop-slot l = record {
  copying : IsCopying l.self l.store l.slot;
  compact : IsCompact l.store;
  count : length l.store.slots.items ≡ 1 + live_tiles (take l.slot l.self.current.items);
}
