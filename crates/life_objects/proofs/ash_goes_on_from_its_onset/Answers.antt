use Rattle.life_objects.proofs.Beginning.{ash_from_onset}
use Rattle.life_objects.proofs.ash_goes_on_from_its_onset.Goals as goal

pub returns : goal.returns
returns c = record {
  later = λ R b t n G onset le. ash_from_onset R b t n G le onset.ash;
  by_then = λ R b t G parts onset fallen. onset.first b (parts, fallen);
}
