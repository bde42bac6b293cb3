-- The places of a store's cells.
use Rattle.std.proofs.Common.{All}
use Rattle.life_model.specs.Generation.{cells}
use Rattle.life_model.proofs.Generations.{contains-cells}
use Rattle.life_cells.specs.Limits.{IsWithin}
use Rattle.life_slots.proofs.Inserted.{all_listed}
use Rattle.life_tile.specs.declared.tile_store.TileStore.{TileStore}
use Rattle.life_tile.specs.TileStores.{IsKept, members_of}

pub fits : (store : TileStore) → IsKept store → All (IsWithin store.age) (cells (members_of store))
fits store kept = all_listed (IsWithin store.age) (members_of store) (cells (members_of store)) (contains-cells (members_of store)) kept.within
