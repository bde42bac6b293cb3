use Rattle.census_crew.proofs.FeedSteps.{pushes}
use Rattle.census_crew.proofs.filling.push.Goals as goal

pub push_as-requires-clause-pushes : goal.push_as-requires-clause-pushes
push_as-requires-clause-pushes c = let f = c.requires.filling in let n = c.requires.next in pushes _ _ c.args.item n.0 n.1 n.2 f.1 f.2 f.3 n.3
