use Rattle.census_crew.proofs.Steps.{stays_trans}
use Rattle.census_crew.proofs.run_state.RunState.take_batch.Goals as goal

pub loop-done-preserved : goal.loop-done-preserved
loop-done-preserved c written = stays_trans _ _ _ _ _ _ (c.loop-done.invariant written) (c.take.ensures.step written)
