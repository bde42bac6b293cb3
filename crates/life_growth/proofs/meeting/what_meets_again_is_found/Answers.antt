use Rattle.life_growth.proofs.MeetingLemmas.Again.{again_by_search, search_by_again}
use Rattle.life_growth.proofs.meeting.what_meets_again_is_found.Goals as goal

pub returns : goal.returns
returns c R b way ashes fallen = (again_by_search R b way ashes fallen, search_by_again R b way ashes fallen)
