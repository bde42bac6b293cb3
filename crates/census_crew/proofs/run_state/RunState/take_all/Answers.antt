use Rattle.std.proofs.Common.{◌∙◌, ap, arith, length, sym}
use Rattle.std.proofs.lemmas.Result.{err_from_is_err_and}
use Rattle.census_crew.proofs.Settles.{counted_more, counted_last}
use Rattle.census_crew.proofs.Steps.{stays_trans, stops_after}
use Rattle.census_crew.proofs.run_state.RunState.take_all.Goals as goal

pub loop-done-preserved : goal.loop-done-preserved
loop-done-preserved g c =
    let at = c.loop-done.invariant in
    let short = ap (λ l. length l) c.in-Some.ensures.steps.0 in
    let gone = c.in-Some.ensures.steps.1 in
    record {
      as_many = let n = at.as_many in omega arith;
      step = stays_trans _ _ _ _ _ _ at.step c.in_ok-arrive.ensures.step;
      sound = c.in_ok-arrive.ensures.failed;
      sent = c.in_ok-arrive.ensures.sent at.sent;
      small = at.small;
      counted = counted_more _ _ _ _ _ _ _ _ _ _ at.step.same_bundle at.step.same_question c.in-Some.ensures.steps.0 at.small at.counted c.in_ok-arrive.ensures.strangers;
    }

pub returns-clause-strangers : goal.returns-clause-strangers
returns-clause-strangers g c = counted_last _ _ _ _ _ _ c.into_iter-done-iterator.ensures.into_iter_gives.0 (sym c.loop-done.invariant.as_many ∙ c.in-None.ensures.steps.0) c.loop-done.invariant.counted

pub returns-in_err-arrive-clause-step : goal.returns-in_err-arrive-clause-step
returns-in_err-arrive-clause-step g c =
    let p = err_from_is_err_and c.from_residual.result c.from_residual.ensures.1 in
    rw p.1 (stops_after _ _ _ _ _ c.loop-done.invariant.step c.in_err-arrive.ensures.step)
