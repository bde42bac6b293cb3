use Rattle.std.proofs.Common.{◌≡◌, ℕ, ◌+◌, ◌<◌, slice_index, length}
use Rattle.life_plane.specs.Rows.{IsTwoOf, IsThreeOf}
use Rattle.life_plane.specs.Windows.{window_row}
use Rattle.life_plane.proofs.band_sums.BandSums.of.Given as goal

abbrev pub invariant-loop-y : goal.invariant-loop-y
invariant-loop-y l = record {
  two_ones_room : length l.two_ones ≡ 8;
  two_twos_room : length l.two_twos ≡ 8;
  three_ones_room : length l.three_ones ≡ 10;
  three_twos_room : length l.three_twos ≡ 10;
  two : (y : ℕ) → y < l.y → IsTwoOf (window_row l.window (y + 1)) (slice_index l.two_ones y) (slice_index l.two_twos y);
  three : (y : ℕ) → y < l.y + 1 → IsThreeOf (window_row l.window y) (slice_index l.three_ones y) (slice_index l.three_twos y);
}
