use Rattle.std.proofs.Common.{sym, ◌∙◌}
use Rattle.life_board.proofs.Counts.{shown_size}
use Rattle.life_board.proofs.small.Square.population.Goals as goal

pub returns : goal.returns
returns c = c.count_rows.ensures c.args.self.now.left c.args.self.now.top ∙ sym (shown_size c.args.self.now.left c.args.self.now.top c.args.self.now.tile)
