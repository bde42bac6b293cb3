use Rattle.life_objects.proofs.Drifting.{apart_by_right, apart_by_below}
use Rattle.life_objects.proofs.sets_that_drift_apart_stay_apart.Goals as goal

pub returns : goal.returns
returns c = record {
  right = λ R g n P Q d e r s before le gap. apart_by_right R g n P Q d e r s before le gap;
  below = λ R g n P Q d e r s before le gap. apart_by_below R g n P Q d e r s before le gap;
}
