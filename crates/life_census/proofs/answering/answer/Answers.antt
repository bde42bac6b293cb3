use Rattle.life_census.proofs.answering.answer.Goals as goal

pub returns : goal.returns
returns g c = c.answer_on.ensures
