use Rattle.std.proofs.Common.{◌≡◌, ℕ, ◌+◌, ◌<◌, slice_index}
use Rattle.life_plane.proofs.eights.has_cells.Given as goal

abbrev pub invariant-loop-y : goal.invariant-loop-y
invariant-loop-y l = record {
  void : l.all ≡ 0 → (k : ℕ) → k < l.y → slice_index l.tile.rows (l.top + k) ≡ 0;
  some : ((k : ℕ) → k < l.y → slice_index l.tile.rows (l.top + k) ≡ 0) → l.all ≡ 0;
}
