use Rattle.std.proofs.Common.{take}
use Rattle.life_growing.specs.Emissions.{NoneMeets}
use Rattle.life_growing.proofs.going.none_meets.Given as goal

-- none of those before this one meets any of the others
abbrev pub invariant-loop-thing : goal.invariant-loop-thing
invariant-loop-thing l = NoneMeets (take l.thing-index l.things) l.others
