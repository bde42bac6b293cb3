use Rattle.life_growth.proofs.Things.{never_meet_by_way, way_by_never_meet}
use Rattle.life_growth.proofs.only_the_way_between_two_things_counts.Goals as goal

pub returns : goal.returns
returns c A B = (way_by_never_meet A B, never_meet_by_way A B)
