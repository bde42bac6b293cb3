use Rattle.life_tracks.specs.Readings.{AreLeftOf}
use Rattle.life_tracks.proofs.reading.left_beside.Given as goal

abbrev pub invariant-loop-other : goal.invariant-loop-other
invariant-loop-other l = AreLeftOf l.classes l.parents l.place l.other l.left
