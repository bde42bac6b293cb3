use Rattle.std.proofs.Common.{ℕ, ◌<◌}
use Rattle.life_tracks.specs.Tracks.{way_of}
use Rattle.life_growing.specs.Emissions.{GoesAway}
use Rattle.life_growing.proofs.going.leave_for_ever.Given as goal

abbrev pub invariant-loop-n : goal.invariant-loop-n
invariant-loop-n l = (n : ℕ) → n < l.n → GoesAway (way_of l.track) l.lefts n
