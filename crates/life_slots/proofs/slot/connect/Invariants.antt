use Rattle.life_slots.proofs.Linking.{IsConnected}
use Rattle.life_slots.proofs.slot.connect.Given as goal

abbrev pub invariant-loop-direction : goal.invariant-loop-direction
invariant-loop-direction l = IsConnected l.links l.slot l.initial.slots l.slots l.direction
