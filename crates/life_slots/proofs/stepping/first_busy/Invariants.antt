use Rattle.std.proofs.Common.{◌≡◌, ℕ, ◌-◌, ◌<◌, ◌≤◌, length}
use Rattle.life_slots.specs.Work.{band_mark}
use Rattle.life_slots.proofs.stepping.first_busy.Given as goal

abbrev pub invariant-loop-slot : goal.invariant-loop-slot
invariant-loop-slot l = record {
  from : l.from ≤ l.slot;
  idle : (k band : ℕ) → l.from ≤ k → k < l.slot → band_mark l.active k band ≡ 0;
}

abbrev pub decreases-loop-slot : goal.decreases-loop-slot
decreases-loop-slot l = length l.active - l.slot

abbrev pub invariant-loop-slot-2 : goal.invariant-loop-slot-2
invariant-loop-slot-2 l = record {
  from : l.from ≤ l.slot;
  idle : (k band : ℕ) → l.from ≤ k → k < l.slot → band_mark l.active k band ≡ 0;
}

abbrev pub decreases-loop-slot-2 : goal.decreases-loop-slot-2
decreases-loop-slot-2 l = length l.active - l.slot
