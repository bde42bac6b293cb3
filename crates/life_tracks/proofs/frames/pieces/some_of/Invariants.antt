use Rattle.std.proofs.Common.{◌≡◌}
use Rattle.life_classes.specs.Tracking.{first_sets}
use Rattle.life_tracks.specs.Frames.Frames.{with_cells}
use Rattle.life_tracks.proofs.frames.pieces.some_of.Given as goal

abbrev pub invariant-loop-class : goal.invariant-loop-class
invariant-loop-class l = l.sets.items ≡ with_cells (first_sets l.yielded)
