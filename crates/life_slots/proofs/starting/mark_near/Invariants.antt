use Rattle.std.proofs.Common.{◌≡◌, length}
use Rattle.life_slots.specs.Work.{IsMarkedNear}
use Rattle.life_slots.proofs.starting.mark_near.Given as goal

abbrev pub invariant-loop-slot : goal.invariant-loop-slot
invariant-loop-slot l = record {
  length : length l.marks ≡ length l.slots;
  near : IsMarkedNear l.slots l.tiles l.marks l.slot;
}
