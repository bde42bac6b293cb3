use Rattle.life_cells.proofs.Spelling.{same_bodies}
use Rattle.life_cells.proofs.laws.texts_tell_sets.Goals as goal

pub returns : goal.returns
returns c = same_bodies
