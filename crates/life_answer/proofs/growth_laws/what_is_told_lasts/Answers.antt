use Rattle.life_answer.proofs.Told.{told_alike, told_lasts, told_still}
use Rattle.life_answer.proofs.growth_laws.what_is_told_lasts.Goals as goal

pub returns : goal.returns
returns c = record {
  bound = λ near R b d G told. told_lasts near R b d G told;
  later = λ near R b d m n G told le before. told_still near R b d m n G le before told;
  phase = λ near R b d m n G. told_alike near R b d m n G;
}
