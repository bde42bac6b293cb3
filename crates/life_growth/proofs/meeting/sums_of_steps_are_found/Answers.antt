use Rattle.life_growth.proofs.MeetingLemmas.Sums.{numbers_by_search, search_by_numbers}
use Rattle.life_growth.proofs.meeting.sums_of_steps_are_found.Goals as goal

pub returns : goal.returns
returns c us x = (numbers_by_search us x, search_by_numbers us x)
