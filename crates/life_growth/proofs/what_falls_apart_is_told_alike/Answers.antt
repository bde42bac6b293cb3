use Rattle.life_growth.proofs.Alike.{ashes_are_alike, later_ashes_are_alike, moved_ashes_are_alike}
use Rattle.life_growth.proofs.what_falls_apart_is_told_alike.Goals as goal

pub returns : goal.returns
returns c = record {
  bounds = ashes_are_alike;
  later = later_ashes_are_alike;
  moved = moved_ashes_are_alike;
}
