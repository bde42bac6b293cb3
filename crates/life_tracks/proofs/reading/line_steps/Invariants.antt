use Rattle.life_tracks.specs.Frames.Frames.{classes_at, parents_at}
use Rattle.life_tracks.specs.Readings.{AreStepsAlong}
use Rattle.life_tracks.proofs.reading.line_steps.Given as goal

abbrev pub invariant-loop-t : goal.invariant-loop-t
invariant-loop-t l =
    AreStepsAlong (classes_at l.film) (parents_at l.film) l.fn.end.generation l.fn.end.place l.t l.steps.items
