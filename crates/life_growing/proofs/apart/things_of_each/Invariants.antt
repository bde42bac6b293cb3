use Rattle.std.proofs.Common.{map}
use Rattle.life_growing.proofs.FindingThings.{AreFirstThings}
use Rattle.life_growing.proofs.apart.things_of_each.Given as goal

abbrev pub invariant-loop-engine : goal.invariant-loop-engine
invariant-loop-engine l = AreFirstThings l.engines l.debris l.engine-index (map (λ v. v.items) l.lists.items)
