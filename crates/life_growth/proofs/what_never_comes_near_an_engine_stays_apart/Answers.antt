use Rattle.life_growth.proofs.Pieces.{apart_by_never_near, engines_apart_by_never_near, engines_never_near_by_apart, never_near_by_apart}
use Rattle.life_growth.proofs.what_never_comes_near_an_engine_stays_apart.Goals as goal

pub returns : goal.returns
returns c = record {
  set = λ R b E X way engine. (never_near_by_apart R b E way engine X, apart_by_never_near R b E way engine X);
  engines = λ R b d E F way other engine too. (
    engines_never_near_by_apart R b d E F way other engine too,
    engines_apart_by_never_near R b d E F way other engine too,
  );
}
