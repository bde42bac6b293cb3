use Rattle.life_growth.proofs.MeetingLemmas.IsEngine.{engine_by_search, search_by_engine}
use Rattle.life_growth.proofs.meeting.engines_are_decided.Goals as goal

pub returns : goal.returns
returns c R b E = (engine_by_search R b E, search_by_engine R b E)
