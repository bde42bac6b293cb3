use Rattle.std.proofs.Common.{ℕ, List, Option}
use Rattle.census_crew.specs.Writing.{StaysInStep}
use Rattle.census_crew.proofs.run_state.RunState.take_batch.Given as goal

abbrev pub invariant-loop-done : goal.invariant-loop-done
invariant-loop-done l = (written : Option (List ℕ)) → StaysInStep written l.fn.self.collector written l.self.collector
