use Rattle.std.proofs.Common.{◌≡◌}
use Rattle.life_growth.specs.Things.{core_thing}
use Rattle.life_growing.specs.Settled.Things.{first_things}
use Rattle.life_tracks.specs.Tracks.{way_of}
use Rattle.life_growing.proofs.lefts.core_things.Given as goal

abbrev pub invariant-loop-n : goal.invariant-loop-n
invariant-loop-n l = l.things.items ≡ first_things (core_thing (way_of l.track)) l.n
