use Rattle.life_tracks.specs.Tracks.{way_of}
use Rattle.life_growing.specs.Emissions.{AreAll}
use Rattle.life_growing.proofs.GoingThings.{IsThingBefore}
use Rattle.life_growing.proofs.emission.Engine.things.Given as goal

abbrev pub invariant-loop-n : goal.invariant-loop-n
invariant-loop-n l = AreAll l.all.items (IsThingBefore (way_of l.self-inside.track) l.self-inside.lefts.items l.n)
