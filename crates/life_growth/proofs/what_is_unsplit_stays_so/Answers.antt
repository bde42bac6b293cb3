use Rattle.life_growth.proofs.Endless.{IsUnsplit-wider, unsplit_for_ever}
use Rattle.life_growth.proofs.what_is_unsplit_stays_so.Goals as goal

pub returns : goal.returns
returns c = record { wider = IsUnsplit-wider; ever = unsplit_for_ever }
