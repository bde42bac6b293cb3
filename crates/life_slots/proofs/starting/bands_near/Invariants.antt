use Rattle.std.proofs.Common.{◌≡◌, ℕ, ◌*◌, ◌<◌}
use Rattle.life_plane.specs.Area.{tile_cell}
use Rattle.life_slots.specs.Rims.{IsNextToBand}
use Rattle.life_slots.specs.Work.{touch_of}
use Rattle.life_slots.proofs.starting.bands_near.Given as goal

abbrev pub invariant-loop-index : goal.invariant-loop-index
invariant-loop-index l = (m band x y : ℕ) → m < 9 → band < 8 → x < 64 → y < 8 * l.index →
    IsNextToBand (record { direction = m; band = band; column = x; row = y }) → touch_of l.touched.columns m band ≡ 0 →
    tile_cell l.tile x y ≡ 0
