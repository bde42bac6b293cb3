use Rattle.std.proofs.lemmas.Result.{err_from_is_err_and}
use Rattle.census_crew.proofs.Steps.{front_at_start}
use Rattle.census_crew.proofs.running.run_untold.Goals as goal

pub returns-in_err-feed-clause-report : goal.returns-in_err-feed-clause-report
returns-in_err-feed-clause-report g c =
    let p = err_from_is_err_and c.from_residual.result c.from_residual.ensures.1 in
    rw p.1 (front_at_start _ _ _)
