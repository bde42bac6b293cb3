use Rattle.std.proofs.Common.{◌≡◌, ℕ, ◌+◌, ◌<◌, ◌≤◌, ◌⊎◌, ◌↔◌, slice_index, length}
use Rattle.std.specs.Int.{bit_at}
use Rattle.life_plane.proofs.kernel.replace.Given as goal

abbrev pub invariant-loop-y : goal.invariant-loop-y
invariant-loop-y l = record {
  room : length l.tile.rows ≡ 64;
  done : (y : ℕ) → y < l.y → slice_index l.tile.rows (l.top + y) ≡ slice_index l.next y;
  others : (y : ℕ) → (y < l.top) ⊎ (l.top + l.y ≤ y) → slice_index l.tile.rows y ≡ slice_index l.initial.tile.rows y;
  all : (x : ℕ) → (bit_at l.all x ≡ 0) ↔ ((y : ℕ) → y < l.y → bit_at (slice_index l.next y) x ≡ bit_at (slice_index l.initial.tile.rows (l.top + y)) x);
}
