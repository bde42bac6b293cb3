use Rattle.census_crew.proofs.Lost.{state_lost}
use Rattle.census_crew.proofs.run_state.RunState.lose.Goals as goal

pub invariant_of-self : goal.invariant_of-self
invariant_of-self c = record { sound = state_lost _ _ _ c.args.bundle.now c.args.self.now.sound c.requires c.is_small.ensures c.lose.ensures }
