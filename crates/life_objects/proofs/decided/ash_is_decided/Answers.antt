use Rattle.life_objects.proofs.DecidedLemmas.Deciding.{ash_if_found, no_ash_if_none}
use Rattle.life_objects.proofs.decided.ash_is_decided.Goals as goal

pub returns : goal.returns
returns c = record { some = ash_if_found; none = no_ash_if_none }
