use Rattle.std.proofs.Common.{◌≡◌, ℕ, ◌<◌}
use Rattle.life_slots.specs.Slots.{tile_of, empty_tile}
use Rattle.life_slots.proofs.starting.clear_all.Given as goal

abbrev pub invariant-loop-tile : goal.invariant-loop-tile
invariant-loop-tile l = (k : ℕ) → k < l.tile-index → tile_of l.tiles k ≡ empty_tile
