use Rattle.census_crew.proofs.Lost.{misses_none}
use Rattle.census_crew.proofs.losing.list_missing.Goals as goal

pub loop-k-init : goal.loop-k-init
loop-k-init c = misses_none _ _ _ c.clear.ensures.items
