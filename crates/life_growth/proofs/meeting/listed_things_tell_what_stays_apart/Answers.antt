use Rattle.life_growth.proofs.MeetingLemmas.Apart.{apart_by_search, search_by_apart}
use Rattle.life_growth.proofs.meeting.listed_things_tell_what_stays_apart.Goals as goal

pub returns : goal.returns
returns c R P Q As Bs made too = (apart_by_search R P Q As Bs made too, search_by_apart R P Q As Bs made too)
