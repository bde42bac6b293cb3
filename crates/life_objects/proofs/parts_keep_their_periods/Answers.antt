use Rattle.life_objects.proofs.Ashes.{object_of}
use Rattle.life_objects.proofs.Recurring.{RecursBy-later, RecursBy-sooner}
use Rattle.life_objects.proofs.parts_keep_their_periods.Goals as goal

pub returns : goal.returns
returns c R b k n G P d parts ash one =
    let again = (object_of R b G parts ash P one).recurs in (
      λ r. RecursBy-sooner R P again.steps again.by again.recurs k n d r,
      λ r. RecursBy-later R P n d r k,
    )
