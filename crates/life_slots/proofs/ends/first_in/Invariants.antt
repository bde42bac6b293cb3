use Rattle.std.proofs.Common.{◌≡◌, ℕ, ◌<◌, get_or}
use Rattle.life_slots.proofs.ends.first_in.Given as goal

abbrev pub invariant-loop-y : goal.invariant-loop-y
invariant-loop-y l = (q : ℕ) → q < l.y → get_or l.tile.rows q 0 ≡ 0
