use Rattle.life_board.proofs.Counts.{fits}
use Rattle.life_board.proofs.board.BoardPlane.from_cells.Goals as goal

pub returns-clause-within : goal.returns-clause-within
returns-clause-within c = fits c.fill.new.self c.in_ok-fill.ensures.kept
