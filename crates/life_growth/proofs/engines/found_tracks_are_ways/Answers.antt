use Rattle.life_growth.proofs.EnginesLemmas.Ways.{engine_by_track}
use Rattle.life_growth.proofs.engines.found_tracks_are_ways.Goals as goal

pub returns : goal.returns
returns c R b n E track h k one cores lefts = engine_by_track R b E n track one h k cores lefts
