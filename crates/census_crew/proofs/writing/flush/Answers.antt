use Rattle.std.proofs.Common.{◌≡◌, sym, ap, length}
use Rattle.std.proofs.lemmas.Result.{err_from_is_err_and}
use Rattle.census_crew.proofs.Steps.{stops_cut, stays_sent}
use Rattle.census_crew.proofs.writing.flush.Goals as goal

pub returns-in_err-put_all-clause-step : goal.returns-in_err-put_all-clause-step
returns-in_err-put_all-clause-step g c =
    let p = err_from_is_err_and c.from_residual.result c.from_residual.ensures.1 in
    rw p.1 (stops_cut _ _ _ (rw c.unsent.ensures at c.in_err-put_all.ensures.bytes))

pub returns-clause-step : goal.returns-clause-step
returns-clause-step g c =
    let all : length c.args.collector.now.unsent ≡ length c.unsent-count.result.now = sym (ap length c.unsent-count.ensures) in
    rw c.sent.ensures (stays_sent _ _ _ _ (rw c.unsent.ensures at c.in_ok-put_all.ensures.bytes) all)
