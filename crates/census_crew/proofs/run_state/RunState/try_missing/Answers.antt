use Rattle.census_crew.proofs.Steps.{stays_refl}
use Rattle.census_crew.proofs.run_state.RunState.try_missing.Goals as goal

pub returns-in_default-work-clause-step : goal.returns-in_default-work-clause-step
returns-in_default-work-clause-step g c = stays_refl _ _
