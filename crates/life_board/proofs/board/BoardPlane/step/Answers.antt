use Rattle.life_board.proofs.Counts.{fits}
use Rattle.life_board.proofs.board.BoardPlane.step.Goals as goal

pub returns-clause-within : goal.returns-clause-within
returns-clause-within c = fits c.step.new.self c.step.ensures.kept
