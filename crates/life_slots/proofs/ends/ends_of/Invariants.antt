use Rattle.life_slots.specs.Ends.{AreEnds, IsLiveAt}
use Rattle.life_slots.proofs.ends.ends_of.Given as goal

abbrev pub invariant-loop-slot : goal.invariant-loop-slot
invariant-loop-slot l = AreEnds (IsLiveAt l.slots l.tiles l.slot) l.ends
