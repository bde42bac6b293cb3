use Rattle.std.proofs.Common.{◌+◌, ◌*◌, ◌/◌}
use Rattle.std.proofs.lemmas.Nat.{mod-mul-add}
use Rattle.life_things.proofs.LatticeLemmas.Turning.{next_turn}
use Rattle.life_things.proofs.lattice.turn.first_in_turn.Goals as goal

pub returns-then-low-from-clause-turn : goal.returns-then-low-from-clause-turn
returns-then-low-from-clause-turn c =
    next_turn c.args.turn.every c.args.turn.first (c.args.from / c.args.turn.every * c.args.turn.every + c.args.turn.first)
    c.requires.first (mod-mul-add (c.args.from / c.args.turn.every) c.args.turn.every c.args.turn.first c.requires.first)
