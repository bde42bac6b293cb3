use Rattle.std.proofs.Common.{◌≡◌, ℕ, ◌+◌, ◌<◌, length, slice_index}
use Rattle.std.specs.Int.{bit_at}
use Rattle.life_plane.specs.Area.{tile_cell}
use Rattle.life_slots.proofs.area.middle.Given as goal

abbrev pub invariant-loop-y : goal.invariant-loop-y
invariant-loop-y l = record {
  room : length l.rows ≡ 32;
  done : (y : ℕ) → y < l.y → (x : ℕ) → x < 32 → bit_at (slice_index l.rows y) x ≡ tile_cell l.area (x + 16) (y + 16);
}
