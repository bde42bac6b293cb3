use Rattle.life_objects.proofs.Moving.{RecursBy-times}
use Rattle.life_objects.proofs.recurrences_go_on.Goals as goal

pub returns : goal.returns
returns c R k n P d h r = RecursBy-times R P n d r k h
