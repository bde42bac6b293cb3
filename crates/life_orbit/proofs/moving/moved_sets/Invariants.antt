use Rattle.std.proofs.Common.{◌≡◌, map, take}
use Rattle.life_model.specs.Generation.{Generation}
use Rattle.life_model.specs.Symmetry.{translate_of}
use Rattle.life_orbit.proofs.moving.moved_sets.Given as goal

abbrev pub invariant-loop-set : goal.invariant-loop-set
invariant-loop-set l = l.all.items ≡ map (λ (P : Generation). translate_of P l.by) (take l.set-index l.sets)
