use Rattle.life_cells.proofs.Spelling.{spelt-body, normal-spelt-body}
use Rattle.life_cells.proofs.laws.a_text_spells_its_set.Goals as goal

pub returns-clause-spelt : goal.returns-clause-spelt
returns-clause-spelt c = spelt-body

pub returns-clause-normal : goal.returns-clause-normal
returns-clause-normal c = normal-spelt-body
