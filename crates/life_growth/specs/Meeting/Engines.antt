-- A search that decides whether a set is an engine within a bound.
use Rattle.std.specs.Prelude.{ℕ, suc, Bool, List}
use Rattle.std.specs.List.{list_any}
use Rattle.life_model.specs.Rule.{Rule}
use Rattle.life_model.specs.Generation.{Generation}
use Rattle.life_model.specs.Evolution.{generation}
use Rattle.life_objects.specs.Decided.Decided.{candidate_parts}
use Rattle.life_growth.specs.Engines.Tracks.{Step, engine_tracks, left_along, way_along}
use Rattle.life_growth.specs.Meeting.Again.{never_meet_again}
use Rattle.life_growth.specs.Meeting.Listed.{numbers_below}

-- the parts of what leaves at a step of a track, which falls apart within b
abbrev pub ashes_along : Rule → ℕ → List Step → ℕ → List Generation
ashes_along R b track n = candidate_parts R b (generation R (left_along track n) b)

-- true where what leaves along a track leaves for ever
abbrev pub goes_away : Rule → ℕ → Generation → List Step → Bool
goes_away R b E track = never_meet_again R b (way_along E track) (ashes_along R b track)

-- true where there is such a track, of 1 to b steps, along which E comes back
unfoldable pub is_engine : Rule → ℕ → Generation → Bool
is_engine R b E = list_any (λ n. list_any (goes_away R b E) (engine_tracks R b (suc n) E)) (numbers_below b)
