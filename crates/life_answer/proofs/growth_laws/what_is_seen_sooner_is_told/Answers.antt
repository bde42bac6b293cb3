use Rattle.life_answer.proofs.Growing.{sooner_told}
use Rattle.life_answer.proofs.growth_laws.what_is_seen_sooner_is_told.Goals as goal

pub returns : goal.returns
returns x near limit R b horizon c g h G S Es = sooner_told near limit R G b horizon c g h S Es
