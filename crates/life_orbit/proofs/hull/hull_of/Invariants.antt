use Rattle.std.proofs.Common.{ℕ, ◌<◌, slice_index_or}
use Rattle.life_model.specs.Generation.{Generation}
use Rattle.life_orbit.specs.Hulls.{HoldsAllCells}
use Rattle.life_orbit.proofs.hull.hull_of.Given as goal

-- the hull has all cells of the sets before this one
abbrev pub invariant-loop-set : goal.invariant-loop-set
invariant-loop-set l = (k : ℕ) (d : Generation) → k < l.set-index → HoldsAllCells l.hull (slice_index_or l.sets k d)
