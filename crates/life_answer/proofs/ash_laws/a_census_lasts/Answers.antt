use Rattle.life_answer.proofs.Ashes.{census_alike, census_lasts}
use Rattle.life_answer.proofs.ash_laws.a_census_lasts.Goals as goal

pub returns : goal.returns
returns x = record {
  bound = census_lasts;
  phase = λ near R b c m n onset other G. census_alike near R b c m n G onset other;
}
