use Rattle.life_growth.proofs.EnginesLemmas.Ways.{found_by_engine}
use Rattle.life_growth.proofs.engines.each_way_is_found.Goals as goal

pub returns : goal.returns
returns c R b E way engine = found_by_engine R b E way engine
