use Rattle.census_merge.proofs.RunsLemmas.Growing.{rows_grow, said_to_grow}
use Rattle.census_merge.proofs.runs.growth_is_told_exactly.Goals as goal

pub returns : goal.returns
returns x = record {
  told = λ near bound most horizon c i e g. rows_grow near bound most horizon e c i g;
  only = λ near bound most horizon e says. said_to_grow near bound most horizon e says;
}
