use Rattle.std.proofs.Common.{◌≤◌, ◌<◌, ℕ}
use Rattle.life_model.specs.Evolution.{generation}
use Rattle.life_model.specs.Generation.{size}
use Rattle.life_ash.proofs.sizes.largest.Given as goal

abbrev pub invariant-loop-phase : goal.invariant-loop-phase
invariant-loop-phase l = (k : ℕ) → k < l.phase → size (generation l.orbit.rule l.orbit.set k) ≤ l.most
