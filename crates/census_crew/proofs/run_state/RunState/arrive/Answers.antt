use Rattle.std.proofs.lemmas.Result.{err_from_is_err_and}
use Rattle.census_crew.proofs.Steps.{stops_after, stays_trans, stays_offered}
use Rattle.census_crew.proofs.run_state.RunState.arrive.Goals as goal

pub returns-clause-step : goal.returns-clause-step
returns-clause-step g c = stays_trans _ _ _ _ _ _ (stays_offered _ _ _ c.args.done _ c.in-Some.ensures.offered) c.in_ok-send.ensures.step

pub returns-in_err-send-clause-step : goal.returns-in_err-send-clause-step
returns-in_err-send-clause-step g c =
    let p = err_from_is_err_and c.from_residual.result c.from_residual.ensures.1 in
    rw p.1 (stops_after _ _ _ _ _ (stays_offered _ _ _ c.args.done _ c.in-Some.ensures.offered) c.in_err-send.ensures.step)
