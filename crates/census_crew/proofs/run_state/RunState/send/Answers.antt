use Rattle.census_crew.proofs.RunStates.{state_sent}
use Rattle.census_crew.proofs.run_state.RunState.send.Goals as goal

pub invariant_of-self : goal.invariant_of-self
invariant_of-self g c = record { sound = state_sent _ _ _ c.args.self.now.sound c.flush.ensures.bundle c.flush.ensures.question c.flush.ensures.taken }
