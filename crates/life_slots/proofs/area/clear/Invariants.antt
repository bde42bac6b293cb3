use Rattle.std.proofs.Common.{◌≡◌, ℕ, ◌+◌, ◌<◌, ◌≤◌, ◌⊎◌, length, slice_index}
use Rattle.life_slots.proofs.area.clear.Given as goal

abbrev pub invariant-loop-y : goal.invariant-loop-y
invariant-loop-y l = record {
  room : length l.area.rows ≡ 64;
  none : (y : ℕ) → l.top ≤ y → y < l.top + l.y → slice_index l.area.rows y ≡ 0;
  others : (y : ℕ) → (y < l.top) ⊎ (l.top + l.y ≤ y) → slice_index l.area.rows y ≡ slice_index l.initial.area.rows y;
}
