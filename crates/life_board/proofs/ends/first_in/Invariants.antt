use Rattle.std.proofs.Common.{◌≡◌, ℕ, ◌<◌, slice_index}
use Rattle.life_board.proofs.ends.first_in.Given as goal

abbrev pub invariant-loop-y : goal.invariant-loop-y
invariant-loop-y l = (q : ℕ) → q < l.y → slice_index l.tile.rows q ≡ 0
