-- The track that an engine goes along, and what it emits.
use Rattle.std.specs.Prelude.{ℕ, suc, List, length, Option, flat_map}
use Rattle.std.specs.List.{find}
use Rattle.life_model.specs.Rule.{Rule}
use Rattle.life_model.specs.Generation.{Generation}
use Rattle.life_growth.specs.Engine.{joined}
use Rattle.life_growth.specs.Engines.Tracks.{Step, engine_tracks}
use Rattle.life_growth.specs.Meeting.Engines.{ashes_along, goes_away}
use Rattle.life_growth.specs.Meeting.Listed.{numbers_below}

-- The track of 1 to b steps along which E goes as an engine within b; None where there is none.
unfoldable pub track_of : Rule → ℕ → Generation → Option (List Step)
track_of R b E = find (goes_away R b E) (flat_map (λ n. engine_tracks R b (suc n) E) (numbers_below b))

-- what is emitted in the steps of a track
abbrev pub emitted_along : Rule → ℕ → List Step → List Generation
emitted_along R b track = joined (ashes_along R b track) (length track)
