use Rattle.life_answer.proofs.Ashes.{ash_sooner}
use Rattle.life_answer.proofs.ash_laws.ash_that_is_seen_sooner_is_found.Goals as goal

pub returns : goal.returns
returns c = ash_sooner
