use Rattle.life_growth.proofs.Classes.{is_one_of_the_engines}
use Rattle.life_growth.proofs.what_runs_apart_is_an_engine_of_the_growth.Goals as goal

pub returns : goal.returns
returns c R b d G E S others Es way growth engine =
    is_one_of_the_engines R b d G E others Es S growth (way, engine)
