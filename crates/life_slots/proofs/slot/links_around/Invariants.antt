use Rattle.std.proofs.Common.{◌≡◌, ℕ, ◌<◌, length, slice_index}
use Rattle.life_slots.specs.Slots.{slot_at, neighbour_at}
use Rattle.life_slots.proofs.slot.links_around.Given as goal

abbrev pub invariant-loop-direction : goal.invariant-loop-direction
invariant-loop-direction l = record {
  nine : length l.links ≡ 9;
  done : (m : ℕ) → m < l.direction → slice_index l.links m ≡ slot_at l.index (neighbour_at l.place m);
}
