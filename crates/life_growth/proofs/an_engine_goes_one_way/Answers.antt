use Rattle.life_growth.proofs.Emitting.{emits_some, emitted_alike}
use Rattle.life_growth.proofs.OneWay.{displacements_are_one, first_cores_are_one, first_lefts_are_one, periods_are_one}
use Rattle.life_growth.proofs.an_engine_goes_one_way.Goals as goal

pub returns : goal.returns
returns c = record {
  period = periods_are_one;
  displacement = displacements_are_one;
  cores = λ R b d n E way other engine too h. first_cores_are_one R b d E way other engine too n h;
  lefts = λ R b d n E way other engine too h. first_lefts_are_one R b d E way other engine too n h;
  some = emits_some;
  emitted = λ R b d E way other Ps Qs engine too. emitted_alike R b d E way other engine too Ps Qs;
}
