use Rattle.std.proofs.Common.{◌≢◌, ℕ, ◌<◌}
use Rattle.life_slots.specs.Slots.{link_of}
use Rattle.life_tile.proofs.tile_store.TileStore.is_surrounded.Given as goal

abbrev pub invariant-loop-direction : goal.invariant-loop-direction
invariant-loop-direction l = (m : ℕ) → m < l.direction → link_of l.self.slots.items l.slot m ≢ 0
