use Rattle.life_slots.proofs.Halves.{middle_bit}
use Rattle.life_slots.proofs.area.middle_of.Goals as goal

pub returns : goal.returns
returns c = middle_bit c.args.row
