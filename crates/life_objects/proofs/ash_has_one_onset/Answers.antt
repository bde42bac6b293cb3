use Rattle.life_objects.proofs.Beginning.{one_onset, onset_wider}
use Rattle.life_objects.proofs.ash_has_one_onset.Goals as goal

pub returns : goal.returns
returns c = record {
  one = λ R b d s t G one other. one_onset R b d s t G one other;
  wider = λ R b d t G le onset. onset_wider R b d t G le onset;
}
