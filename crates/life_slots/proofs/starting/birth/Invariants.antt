use Rattle.std.proofs.Common.{◌≡◌, ℕ, ◌+◌, ◌<◌, ◌↔◌, slice_index}
use Rattle.std.specs.Int.{bit_at}
use Rattle.life_slots.proofs.starting.birth.Given as goal

abbrev pub invariant-loop-y : goal.invariant-loop-y
invariant-loop-y l = (x : ℕ) → x < 64 → (bit_at l.all x ≡ 0) ↔ ((y : ℕ) → y < l.y → bit_at (slice_index l.tile.rows (l.top + y)) x ≡ 0)
