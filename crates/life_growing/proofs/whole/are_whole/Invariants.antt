use Rattle.life_tracks.specs.Tracks.{way_of}
use Rattle.life_growing.proofs.FindingCores.{AreWholeSoFar}
use Rattle.life_growing.proofs.whole.are_whole.Given as goal

abbrev pub invariant-loop-n : goal.invariant-loop-n
invariant-loop-n g l = AreWholeSoFar l.rule l.bound (way_of l.track).core l.n l.seen
