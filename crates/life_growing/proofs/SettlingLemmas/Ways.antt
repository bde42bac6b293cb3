-- Ways that things may have.
use Rattle.std.specs.Prelude.{None, Option, Some}
use Rattle.std.specs.List.{All}
use Rattle.std.proofs.lemmas.List.Elements.{All-cons, All-nil}
use Rattle.life_things.specs.declared.way.Way.{Way}
use Rattle.life_things.specs.Ways.{IsFit, way_of}
use Rattle.life_growing.specs.Settled.Placing.{IsFitWay, ways_of_one}

pub fit_one : (way : Option Way) → IsFitWay way → All IsFit (ways_of_one way)
fit_one None h = All-nil IsFit
fit_one (Some w) h = All-cons IsFit (way_of w) (ways_of_one None) h (All-nil IsFit)
