use Rattle.std.proofs.Common.{◌≡◌, ℕ, ◌<◌, slice_index, length}
use Rattle.std.specs.Int.{bit_at}
use Rattle.life_model.specs.Rule.{born, stays}
use Rattle.life_plane.specs.Flags.{as_bit}
use Rattle.life_plane.proofs.answers.Answers.of.Given as goal

abbrev pub invariant-loop-count : goal.invariant-loop-count
invariant-loop-count l = record {
  dead_nine : length l.dead ≡ 9;
  live_nine : length l.live ≡ 9;
  dead : (n : ℕ) → n < l.count → (j : ℕ) → j < 64 → bit_at (slice_index l.dead n) j ≡ as_bit (born l.rule n);
  live : (n : ℕ) → n < l.count → (j : ℕ) → j < 64 → bit_at (slice_index l.live n) j ≡ as_bit (stays l.rule n);
}
