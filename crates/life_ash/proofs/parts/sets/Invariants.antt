use Rattle.std.proofs.Common.{◌≡◌, take}
use Rattle.life_apart.specs.Sets.{sets_of}
use Rattle.life_ash.proofs.parts.sets.Given as goal

abbrev pub invariant-loop-orbit : goal.invariant-loop-orbit
invariant-loop-orbit l = l.sets.items ≡ sets_of (take l.orbit-index l.orbits)
