use Rattle.std.proofs.Common.{rules}
use Rattle.std.proofs.lemmas.Result.{err_from_is_err_and}
use Rattle.census_crew.proofs.Steps.{stays_refl, stays_trans, stops_after}
use Rattle.census_crew.proofs.run_state.RunState.collect.Goals as goal

pub loop-init : goal.loop-init
loop-init g c = (search rules, search rules, stays_refl _ _, c.requires.sound)

pub loop-preserved : goal.loop-preserved
loop-preserved g c = (
  tt,
  tt,
  stays_trans _ _ _ _ _ _ (stays_trans _ _ _ _ _ _ c.loop.invariant.2 c.in_ok-batch.ensures.step) (c.take_batch.ensures _),
  c.in_ok-batch.ensures.failed,
)

pub loop-preserved-in-Continue-branch-3 : goal.loop-preserved-in-Continue-branch-3
loop-preserved-in-Continue-branch-3 g c = (
  tt,
  tt,
  stays_trans _ _ _ _ _ _ (stays_trans _ _ _ _ _ _ (stays_trans _ _ _ _ _ _ c.loop.invariant.2 c.in_ok-batch.ensures.step) (c.take_batch.ensures _)) c.in_ok-send.ensures.step,
  c.in_ok-send.ensures.failed,
)

pub returns-in_err-send-clause-step : goal.returns-in_err-send-clause-step
returns-in_err-send-clause-step g c =
    let p = err_from_is_err_and c.from_residual-in_err-send.result c.from_residual-in_err-send.ensures.1 in
    rw p.1
    (stops_after _ _ _ _ _ (stays_trans _ _ _ _ _ _ (stays_trans _ _ _ _ _ _ c.loop.invariant.2 c.in_ok-batch.ensures.step) (c.take_batch.ensures _))
    c.in_err-send.ensures.step)
