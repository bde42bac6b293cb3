use Rattle.std.proofs.Common.{◌≡◌, take, true}
use Rattle.life_model.specs.Generation.{from_list}
use Rattle.life_tile.specs.TileStores.{IsCompact, IsKept, members_of}
use Rattle.life_tile.proofs.tile_store.TileStore.of.Given as goal

abbrev pub invariant-loop-cell : goal.invariant-loop-cell
invariant-loop-cell l = record {
  kept : IsKept l.store;
  lacks_previous : l.store.lacks_previous ≡ true;
  age : l.store.age ≡ l.fn.age;
  members : members_of l.store ≡ from_list (take l.cell-index l.cells);
  compact : IsCompact l.store;
}
