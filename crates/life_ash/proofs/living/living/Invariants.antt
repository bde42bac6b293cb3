use Rattle.std.proofs.Common.{◌≡◌, filter}
use Rattle.life_classes.specs.Tracking.{last_sets}
use Rattle.life_ash.specs.Living.{has_cells}
use Rattle.life_ash.proofs.living.living.Given as goal

abbrev pub invariant-loop-class : goal.invariant-loop-class
invariant-loop-class l = l.sets.items ≡ filter has_cells (last_sets l.yielded)
