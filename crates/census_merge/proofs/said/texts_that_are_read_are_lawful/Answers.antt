use Rattle.census_merge.proofs.BackLemmas.Reports.{read-back}
use Rattle.census_merge.proofs.said.texts_that_are_read_are_lawful.Goals as goal

pub returns : goal.returns
returns c = read-back
