use Rattle.life_objects.proofs.DecidedLemmas.Deciding.{none_if_no_ash}
use Rattle.life_objects.proofs.DecidedLemmas.Lasting.{nothing_found, parts_found}
use Rattle.life_objects.proofs.decided.parts_are_found.Goals as goal

pub returns : goal.returns
returns c = record { parts = parts_found; otherwise = none_if_no_ash; nothing = nothing_found }
