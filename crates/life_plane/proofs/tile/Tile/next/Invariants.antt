use Rattle.std.proofs.Common.{◌≡◌, ℕ, ◌+◌, ◌<◌, slice_index, length}
use Rattle.std.specs.Int.{bit_at}
use Rattle.life_plane.specs.Bits.{IsStrandOf}
use Rattle.life_plane.specs.Area.{nine_of, area_row, next_in_area}
use Rattle.life_plane.proofs.tile.Tile.next.Given as goal

abbrev pub invariant-loop-y : goal.invariant-loop-y
invariant-loop-y l = record {
  whole : length l.rows ≡ 64;
  above : IsStrandOf l.up (area_row (nine_of l.self l.around) (l.y + 63));
  middle : IsStrandOf l.mid (area_row (nine_of l.self l.around) (l.y + 64));
  done : (y : ℕ) → y < l.y → (x : ℕ) → x < 64 → bit_at (slice_index l.rows y) x ≡ next_in_area l.rule (nine_of l.self l.around) x y;
}
