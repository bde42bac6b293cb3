use Rattle.std.proofs.Common.{ℕ, ◌<◌}
use Rattle.life_slots.specs.Indexes.{IsClosed}
use Rattle.life_tile.specs.TileStores.{IsExtended, IsKept}
use Rattle.life_tile.proofs.tile_store.TileStore.grow.Given as goal

abbrev pub invariant-loop-slot : goal.invariant-loop-slot
invariant-loop-slot l = record {
  kept : IsKept l.self;
  extended : IsExtended l.initial.self l.self;
  closed : (k : ℕ) → 0 < k → k < l.slot → IsClosed l.self.slots.items l.self.current.items k;
}
