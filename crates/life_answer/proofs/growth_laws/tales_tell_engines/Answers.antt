use Rattle.life_answer.proofs.Tales.{emits_told, moves_told, periods_told, told_alike, told_one}
use Rattle.life_answer.proofs.growth_laws.tales_tell_engines.Goals as goal

pub returns : goal.returns
returns c = record {
  one = λ near R b d E F. told_one R near b d E F;
  alike = told_alike;
  parts = λ near R b d E F way other one two same. (
    periods_told R near b d E F way other one two same,
    moves_told R near b d E F way other one two same,
    emits_told R near b d E F way other one two same,
  );
}
