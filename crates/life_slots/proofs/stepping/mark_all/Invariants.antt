use Rattle.std.proofs.Common.{◌≡◌, ℕ, ◌<◌}
use Rattle.std.specs.Int.{bit_at}
use Rattle.life_slots.specs.Work.{band_mark}
use Rattle.life_slots.proofs.stepping.mark_all.Given as goal

abbrev pub invariant-loop-mark : goal.invariant-loop-mark
invariant-loop-mark l = (k : ℕ) → k < l.mark-index → (band : ℕ) → band_mark l.marks k band ≡ bit_at l.value.bits band
