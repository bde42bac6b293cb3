use Rattle.std.proofs.Common.{◌≡◌, flat_map, take}
use Rattle.life_model.specs.Generation.{cells}
use Rattle.life_apart.specs.Sets.{sets_of}
use Rattle.life_apart.proofs.checks.all_cells.Given as goal

abbrev pub invariant-loop-orbit : goal.invariant-loop-orbit
invariant-loop-orbit l = l.all.items ≡ flat_map cells (sets_of (take l.orbit-index l.orbits))
