use Rattle.census_crew.proofs.Steps.{stops_after, stops_here}
use Rattle.census_crew.proofs.run_state.RunState.work_missing.Goals as goal

pub returns-then-not-worked-clause-step : goal.returns-then-not-worked-clause-step
returns-then-not-worked-clause-step g c = stops_after _ _ _ _ _ c.in_ok-worked.ensures.step (stops_here _ _)
