use Rattle.std.proofs.Common.{take}
use Rattle.life_census.specs.Counted.{AreCounted}
use Rattle.life_census.specs.Emitted.{parts_of_each}
use Rattle.life_census.proofs.emitted.emitted.Given as goal

-- what leaves in the steps so far is counted
abbrev pub invariant-loop-left : goal.invariant-loop-left
invariant-loop-left l = AreCounted l.near (parts_of_each (take l.left-index l.lefts)) l.parts
