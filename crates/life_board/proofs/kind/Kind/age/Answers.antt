use Rattle.life_board.proofs.Counts.{fits}
use Rattle.life_board.proofs.kind.Kind.age.Goals as goal

pub returns-in-Small-clause-within : goal.returns-in-Small-clause-within
returns-in-Small-clause-within c = fits c.args.self.now c.requires
