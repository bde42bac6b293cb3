use Rattle.census_crew.proofs.FeedSteps.{merges}
use Rattle.census_crew.proofs.closing.end.Goals as goal

pub absorb-requires-clause-rule : goal.absorb-requires-clause-rule
absorb-requires-clause-rule c = merges _ _ _ _ c.requires.ending.1 c.args.hand.holder
