use Rattle.census_crew.proofs.FeedSteps.{forks}
use Rattle.census_crew.proofs.filling.begin.Goals as goal

pub another-pass-requires : goal.another-pass-requires
another-pass-requires c = let r = c.requires.room in forks _ _ r.0 r.1 c.requires.filling.1 r.2 r.3
