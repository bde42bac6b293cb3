use Rattle.std.proofs.Common.{◌≡◌, ℕ, ◌<◌, ◌≤◌, get_or}
use Rattle.life_slots.proofs.ends.last_in.Given as goal

abbrev pub invariant-loop-y : goal.invariant-loop-y
invariant-loop-y l = record {
  high : l.y ≤ 64;
  clear : (q : ℕ) → l.y ≤ q → q < 64 → get_or l.tile.rows q 0 ≡ 0;
}

abbrev pub decreases-loop-y : goal.decreases-loop-y
decreases-loop-y l = l.y
