use Rattle.life_growing.proofs.Deciding.{emission_is_made}
use Rattle.life_growing.proofs.laws.an_engine_is_made_of_its_things.Goals as goal

pub returns : goal.returns
returns c R b E e is = emission_is_made R b E e is
