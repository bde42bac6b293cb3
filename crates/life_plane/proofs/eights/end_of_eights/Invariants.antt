use Rattle.std.proofs.Common.{◌≡◌, ℕ, ◌*◌, ◌<◌, ◌≤◌, slice_index}
use Rattle.life_plane.proofs.eights.end_of_eights.Given as goal

abbrev pub invariant-loop-band : goal.invariant-loop-band
invariant-loop-band l = record {
  high : l.band ≤ 8;
  void : (y : ℕ) → 8 * l.band ≤ y → y < 64 → slice_index l.tile.rows y ≡ 0;
}

abbrev pub decreases-loop-band : goal.decreases-loop-band
decreases-loop-band l = l.band
