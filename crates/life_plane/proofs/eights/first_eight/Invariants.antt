use Rattle.std.proofs.Common.{◌≡◌, ℕ, ◌*◌, ◌<◌, slice_index}
use Rattle.life_plane.proofs.eights.first_eight.Given as goal

abbrev pub invariant-loop-band : goal.invariant-loop-band
invariant-loop-band l = (y : ℕ) → y < 8 * l.band → slice_index l.tile.rows y ≡ 0
