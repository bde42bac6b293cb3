use Rattle.life_objects.proofs.DecidedLemmas.Lasting.{found_later, found_within, same_found}
use Rattle.life_objects.proofs.decided.what_was_found_lasts.Goals as goal

pub returns : goal.returns
returns c = record { later = found_later; bound = found_within; same = same_found }
