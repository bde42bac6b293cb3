use Rattle.life_objects.proofs.Settling.{both_onsets}
use Rattle.life_objects.proofs.settling_and_ash_have_one_onset.Goals as goal

pub returns : goal.returns
returns c R b d t G r settles onset = both_onsets R G d t onset b r settles
