use Rattle.life_growth.proofs.Bounds.{what_settles_has_a_bound}
use Rattle.life_growth.proofs.OneGrowth.{engine_has_no_bound}
use Rattle.life_growth.proofs.engines_grow_beyond_every_bound.Goals as goal

pub returns : goal.returns
returns c = record { engine = engine_has_no_bound; otherwise = what_settles_has_a_bound }
