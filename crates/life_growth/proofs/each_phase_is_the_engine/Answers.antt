use Rattle.life_growth.proofs.Emitting.{phases_are_told_alike}
use Rattle.life_growth.proofs.OneWay.{IsEngine-phase}
use Rattle.life_growth.proofs.each_phase_is_the_engine.Goals as goal

pub returns : goal.returns
returns c = record {
  engine = λ R b n E way engine. IsEngine-phase R b E way engine n;
  told = λ R b n E way engine. phases_are_told_alike R b E way engine n;
}
