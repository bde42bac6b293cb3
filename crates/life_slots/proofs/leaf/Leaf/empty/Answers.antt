use Rattle.life_plane.proofs.OneCell.{no_cell}
use Rattle.life_slots.proofs.leaf.Leaf.empty.Goals as goal

pub returns : goal.returns
returns c = no_cell 32
