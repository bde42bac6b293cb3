use Rattle.std.proofs.lemmas.Result.{err_from_is_err_and}
use Rattle.census_crew.proofs.Settles.{ends_report}
use Rattle.census_crew.proofs.Steps.{front_at_start, front_from_start, stays_trans, stops_after}
use Rattle.census_crew.proofs.running.settle.Goals as goal

pub returns-in_err-state-clause-report : goal.returns-in_err-state-clause-report
returns-in_err-state-clause-report g c =
    let p = err_from_is_err_and c.from_residual.result c.from_residual.ensures.1 in
    rw p.1 (front_at_start _ _ _)

pub returns-in_err-send-clause-report : goal.returns-in_err-send-clause-report
returns-in_err-send-clause-report g c =
    let p = err_from_is_err_and c.from_residual-in_err-send.result c.from_residual-in_err-send.ensures.1 in
    rw p.1 (front_from_start _ _ _ _ _ c.in_ok-state.ensures.collector c.in_err-send.ensures.step)

pub returns-in_err-take_all-clause-report : goal.returns-in_err-take_all-clause-report
returns-in_err-take_all-clause-report g c =
    let p = err_from_is_err_and c.from_residual-in_err-take_all.result c.from_residual-in_err-take_all.ensures.1 in
    rw p.1
    (front_from_start _ _ _ _ _ c.in_ok-state.ensures.collector (stops_after _ _ _ _ _ c.in_ok-send.ensures.step c.in_err-take_all.ensures.step))

pub returns-clause-report : goal.returns-clause-report
returns-clause-report g c =
    ends_report _ _ _ _ _ _ _ _ c.in_ok-state.ensures.collector (stays_trans _ _ _ _ _ _ c.in_ok-send.ensures.step c.in_ok-take_all.ensures.step) c.finish.ensures.ends
