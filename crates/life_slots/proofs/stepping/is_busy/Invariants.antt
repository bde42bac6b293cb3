use Rattle.std.proofs.Common.{◌≡◌, ℕ, ◌+◌, ◌<◌, ◌≤◌}
use Rattle.std.specs.Int.{bit_at}
use Rattle.life_slots.specs.Work.{band_mark}
use Rattle.life_slots.proofs.stepping.is_busy.Given as goal

abbrev pub invariant-loop-slot : goal.invariant-loop-slot
invariant-loop-slot l = (k band : ℕ) → l.from ≤ k → k < l.from + l.slot → bit_at l.all.bits band ≡ 0 → band_mark l.active k band ≡ 0
