use Rattle.std.proofs.Common.{◌≡◌, take}
use Rattle.std.specs.List.{sum_by}
use Rattle.life_slots.specs.Cells.{tile_count}
use Rattle.life_slots.proofs.counting.count_cells.Given as goal

abbrev pub invariant-loop-tile : goal.invariant-loop-tile
invariant-loop-tile l = l.count ≡ sum_by tile_count (take l.tile-index l.tiles)
