use Rattle.life_plane.proofs.OneCell.{no_cell}
use Rattle.life_plane.proofs.tile.TileDefault.default.Goals as goal

pub returns : goal.returns
returns c = no_cell 64
