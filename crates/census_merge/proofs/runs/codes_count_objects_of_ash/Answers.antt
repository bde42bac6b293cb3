use Rattle.census_merge.proofs.RunsLemmas.ObjectsOfAsh.{codes_count_objects_of_ash}
use Rattle.census_merge.proofs.runs.codes_count_objects_of_ash.Goals as goal

pub returns : goal.returns
returns c = codes_count_objects_of_ash
