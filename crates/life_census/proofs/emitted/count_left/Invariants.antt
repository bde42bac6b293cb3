use Rattle.std.proofs.Common.{List, ◌++◌, take}
use Rattle.life_orbit.specs.Course.{Course}
use Rattle.life_census.specs.Counted.{AreCounted}
use Rattle.life_census.proofs.emitted.count_left.Given as goal

-- the parts so far are counted in addition to what was counted
abbrev pub invariant-loop-orbit : goal.invariant-loop-orbit
invariant-loop-orbit l = (before : List Course) → AreCounted l.near before l.fn.parts →
    AreCounted l.near (before ++ take l.orbit-index l.left.parts) l.parts
