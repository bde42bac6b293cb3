use Rattle.life_growth.proofs.MeetingLemmas.Meeting.{never_by_search, search_by_never}
use Rattle.life_growth.proofs.meeting.meetings_are_found.Goals as goal

pub returns : goal.returns
returns c A B = (never_by_search A B, search_by_never A B)
