use Rattle.std.proofs.Common.{take}
use Rattle.life_census.specs.Counted.{AreCounted}
use Rattle.life_census.proofs.parts.parts_of.Given as goal

-- the sets so far are counted
abbrev pub invariant-loop-n : goal.invariant-loop-n
invariant-loop-n l = AreCounted l.near (take l.n l.orbits) l.parts
