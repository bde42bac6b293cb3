use Rattle.census_crew.proofs.RunStates.{state_whole}
use Rattle.census_crew.proofs.Steps.{ends_whole}
use Rattle.census_crew.proofs.run_state.RunState.finish.Goals as goal

pub returns-clause-ends : goal.returns-clause-ends
returns-clause-ends g c = ends_whole _ _ _ _ c.in_ok-catch_up.ensures.step c.in_ok-catch_up.ensures.whole.0 c.in_ok-catch_up.ensures.whole.1

pub returns-clause-tally : goal.returns-clause-tally
returns-clause-tally g c = state_whole _ _ _ _ _ c.catch_up.new.self.sound c.in_ok-catch_up.ensures.step c.in_ok-catch_up.ensures.whole.1
