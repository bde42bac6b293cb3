use Rattle.std.proofs.lemmas.Result.{err_from_is_err_and}
use Rattle.census_crew.proofs.Steps.{stops_here}
use Rattle.census_crew.proofs.run_state.RunState.share.Goals as goal

pub returns-in_err-to-clause-step : goal.returns-in_err-to-clause-step
returns-in_err-to-clause-step g c =
    let p = err_from_is_err_and c.from_residual.result c.from_residual.ensures.1 in
    rw p.1 (stops_here _ _)
