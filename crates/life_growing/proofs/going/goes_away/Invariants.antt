use Rattle.life_tracks.specs.Tracks.{way_of}
use Rattle.life_growing.proofs.GoingAway.{GoesAwayBefore}
use Rattle.life_growing.proofs.going.goes_away.Given as goal

abbrev pub invariant-loop-k : goal.invariant-loop-k
invariant-loop-k l = GoesAwayBefore (way_of l.track) l.lefts l.n l.k
