use Rattle.life_growing.proofs.SettlingLemmas.Making.{is_made_of_its_things}
use Rattle.life_growing.proofs.settling.laws.what_settles_is_made_of_things.Goals as goal

pub returns : goal.returns
returns c R b P s settles = is_made_of_its_things R b P s settles
