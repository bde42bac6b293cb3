use Rattle.census_merge.proofs.RunsLemmas.Settled.{rows_of_run}
use Rattle.census_merge.proofs.runs.ok_lines_are_those_of_run.Goals as goal

pub returns : goal.returns
returns c = λ near bound most horizon onset period e says later limit enough small.
    rows_of_run near bound most horizon e later limit small onset period says enough
