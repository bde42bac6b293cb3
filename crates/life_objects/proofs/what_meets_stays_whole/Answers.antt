use Rattle.life_objects.proofs.Staying.{cell_stays, meeting_stays}
use Rattle.life_objects.proofs.what_meets_stays_whole.Goals as goal

pub returns : goal.returns
returns c = record {
  cell = cell_stays;
  meeting = λ R b n G P Q Ps whole stay h pairs p q meet. meeting_stays R b G Ps whole stay n h pairs P Q p q meet;
}
