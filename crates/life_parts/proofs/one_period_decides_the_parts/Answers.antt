use Rattle.life_parts.proofs.PartsLemmas.Deciding.{decided}
use Rattle.life_parts.proofs.one_period_decides_the_parts.Goals as goal

pub returns : goal.returns
returns c R P Qs p d r least together once some tied held home = decided R P Qs p d r least together once some held home tied
