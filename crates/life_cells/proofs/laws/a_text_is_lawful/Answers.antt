use Rattle.life_cells.proofs.Spelling.{lawful-body}
use Rattle.life_cells.proofs.laws.a_text_is_lawful.Goals as goal

pub returns : goal.returns
returns c = lawful-body
