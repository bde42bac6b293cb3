use Rattle.life_growth.proofs.Emitting.{IsEngine-wider}
use Rattle.life_growth.proofs.Lasting.{IsGrowth-wider}
use Rattle.life_growth.proofs.a_greater_bound_changes_no_growth.Goals as goal

pub returns : goal.returns
returns c = record { engine = IsEngine-wider; growth = IsGrowth-wider }
