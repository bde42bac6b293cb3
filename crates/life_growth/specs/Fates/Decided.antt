-- The engines and the debris into which a set grows.
use Rattle.std.specs.Prelude.{ℕ, Bool, ◌&&◌, List, [], ◌∷◌, map, Option, Some, None}
use Rattle.std.specs.List.{find, list_all}
use Rattle.life_model.specs.Rule.{Rule}
use Rattle.life_model.specs.Generation.{Generation}
use Rattle.life_model.specs.Evolution.{generation}
use Rattle.life_growth.specs.Things.{Thing}
use Rattle.life_objects.specs.Decided.Decided.{candidate_parts}
use Rattle.life_objects.specs.Decided.Tests.{each_pair}
use Rattle.life_growth.specs.Engines.Growths.{growths_of}
use Rattle.life_growth.specs.Engines.Tracks.{Step, way_along}
use Rattle.life_growth.specs.Meeting.Engines.{ashes_along, is_engine}
use Rattle.life_growth.specs.Meeting.Listed.{engine_things, settled_things}
use Rattle.life_growth.specs.Meeting.Meeting.{all_never_meet}
use Rattle.life_growth.specs.Fates.Tracks.{track_of}

-- the things of an engine that goes along a track, or none if there is no track
abbrev pub things_along : Rule → ℕ → Generation → Option (List Step) → List Thing
things_along R b E None = []
things_along R b E (Some track) = engine_things R b (way_along E track) (ashes_along R b track)

-- the things of an engine, and those of what falls apart
abbrev pub things_of_engine : Rule → ℕ → Generation → List Thing
things_of_engine R b E = things_along R b E (track_of R b E)

abbrev pub things_of_debris : Rule → ℕ → Generation → List Thing
things_of_debris R b S = settled_things R b S (candidate_parts R b (generation R S b))

-- the things of debris and of each engine, list by list
abbrev pub things_of_each : Rule → ℕ → List Generation × Generation → List (List Thing)
things_of_each R b g = things_of_debris R b g.1 ∷ map (things_of_engine R b) g.0

-- true where all the engines are engines, and no two of them, nor one of them and the debris, ever meet
abbrev pub goes_on : Rule → ℕ → List Generation × Generation → Bool
goes_on R b g = list_all (is_engine R b) g.0 && each_pair all_never_meet (things_of_each R b g)

-- The engines and the debris of G within b; None where it has no growth.
unfoldable pub growth_of : Rule → ℕ → Generation → Option (List Generation × Generation)
growth_of R b G = find (goes_on R b) (growths_of R b G)
