use Rattle.life_growth.proofs.Pieces.{engine_leaves_cores, engine_leaves_lefts, leaves_for_ever}
use Rattle.life_growth.proofs.what_never_comes_near_leaves_for_ever.Goals as goal

pub returns : goal.returns
returns c = record {
  leaves = leaves_for_ever;
  otherwise = λ R b E way engine. (engine_leaves_cores R b E way engine, engine_leaves_lefts R b E way engine);
}
