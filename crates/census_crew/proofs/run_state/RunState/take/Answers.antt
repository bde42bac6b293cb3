use Rattle.std.proofs.Common.{refl}
use Rattle.census_crew.proofs.RunStates.{state_few, state_kept, state_one, state_double, state_stranger}
use Rattle.census_crew.proofs.Steps.{stays_offered}
use Rattle.census_crew.proofs.run_state.RunState.take.Goals as goal

pub with-counted-requires-clause-patterns : goal.with-counted-requires-clause-patterns
with-counted-requires-clause-patterns c = (state_few _ _ c.args.self.now.sound).0

pub with-counted-requires-clause-resolved : goal.with-counted-requires-clause-resolved
with-counted-requires-clause-resolved c = (state_few _ _ c.args.self.now.sound).1

pub with-counted-requires-clause-unresolved : goal.with-counted-requires-clause-unresolved
with-counted-requires-clause-unresolved c = (state_few _ _ c.args.self.now.sound).2

pub with-counted-requires-clause-refused : goal.with-counted-requires-clause-refused
with-counted-requires-clause-refused c = (state_few _ _ c.args.self.now.sound).3

pub invariant_of-self : goal.invariant_of-self
invariant_of-self c = record { sound = state_one _ _ _ _ c.args.done _ _ c.args.self.now.sound c.in-Ok-Taken.field-0-is c.in-Ok-Taken.ensures.ok c.answer.ensures c.with-counted.ensures }

pub invariant_of-self-in-Ok-Double : goal.invariant_of-self-in-Ok-Double
invariant_of-self-in-Ok-Double c = record { sound = state_double _ _ _ _ c.args.done _ c.args.self.now.sound c.in-Ok-Double.field-0-is c.in-Ok-Double.ensures.ok refl refl refl refl }

pub invariant_of-self-in-Ok-Stranger : goal.invariant_of-self-in-Ok-Stranger
invariant_of-self-in-Ok-Stranger c = record { sound = state_stranger _ _ _ _ c.args.done _ c.args.self.now.sound c.in-Ok-Stranger.field-0-is c.in-Ok-Stranger.ensures.ok refl refl refl refl }

pub invariant_of-self-in-Err : goal.invariant_of-self-in-Err
invariant_of-self-in-Err c = record { sound = state_kept _ _ _ _ c.args.self.now.sound c.in-Err.ensures.unchanged refl refl refl refl }

pub returns-in-Ok-Taken-clause-step : goal.returns-in-Ok-Taken-clause-step
returns-in-Ok-Taken-clause-step c written = stays_offered written _ _ c.args.done _ c.in-Ok-Taken.ensures.ok
