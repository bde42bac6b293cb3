use Rattle.census_crew.proofs.RunStates.{state_start}
use Rattle.census_crew.proofs.run_state.RunState.new.Goals as goal

pub invariant_of-result : goal.invariant_of-result
invariant_of-result c = record { sound = state_start _ _ _ _ c.is_small.ensures c.requires c.in_ok-collector.ensures c.new-2.ensures }
