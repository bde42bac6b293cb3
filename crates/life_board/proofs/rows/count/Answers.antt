use Rattle.life_board.proofs.Alone.{counted}
use Rattle.life_board.proofs.rows.count.Goals as goal

pub returns : goal.returns
returns c = λ up mid down above beside below x wide.
    counted c.args.above c.args.beside c.args.below up mid down above beside below x _ _ wide (c.full_adder-sum.ensures x)
