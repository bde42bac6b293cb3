use Rattle.life_objects.proofs.Moving.{apart_by_period}
use Rattle.life_objects.proofs.sets_of_one_velocity_stay_apart.Goals as goal

pub returns : goal.returns
returns c R n P Q d r s far = apart_by_period R n d P Q r s far
