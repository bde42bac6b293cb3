use Rattle.std.proofs.Common.{◌≡◌, ℕ, ◌<◌, slice_index, length, bit_xor}
use Rattle.life_plane.proofs.logic.RulePolynomial.between.Given as goal

abbrev pub invariant-loop-number : goal.invariant-loop-number
invariant-loop-number l = record {
  nine : length l.turn ≡ 9;
  turn : (n : ℕ) → n < l.number → slice_index l.turn n ≡ bit_xor (slice_index l.dead n) (slice_index l.live n);
}
