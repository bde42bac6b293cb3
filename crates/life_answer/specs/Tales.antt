-- The facts that are reported about an engine.
use Rattle.std.specs.Prelude.{ℕ, Bool, List, [], Option, Some, None, pos}
use Rattle.life_model.specs.Rule.{Rule}
use Rattle.life_model.specs.Generation.{Generation}
use Rattle.life_growth.specs.Engine.{Way}
use Rattle.life_growth.specs.Engines.Tracks.{Step, way_along}
use Rattle.life_growth.specs.Fates.Tracks.{emitted_along, track_of}
use Rattle.life_answer.specs.Census.{counted_parts}
use Rattle.life_answer.specs.declared.tale.Tale.{Tale}

-- the tale of an engine that goes this way and emits these objects within b, which count as the objects of ash do
abbrev pub tale_by : Bool → Rule → ℕ → Way → List Generation → Tale
tale_by near R b way objects = record {
  period = way.period;
  dx = way.displacement.0;
  dy = way.displacement.1;
  emits = counted_parts near R b objects;
}

abbrev pub tale_along : Bool → Rule → ℕ → Generation → Option (List Step) → Tale
tale_along near R b E None = record { period = 0; dx = pos 0; dy = pos 0; emits = [] }
tale_along near R b E (Some track) = tale_by near R b (way_along E track) (emitted_along R b track)

-- the tale of an engine within b; if the set is no engine, the tale has a period of 0
unfoldable pub tale_of : Bool → Rule → ℕ → Generation → Tale
tale_of near R b E = tale_along near R b E (track_of R b E)
