use Rattle.std.proofs.Common.{◌≡◌, false}
use Rattle.census_crew.specs.Writing.{StaysInStep}
use Rattle.census_crew.proofs.run_state.RunState.collect.Given as goal

abbrev pub invariant-loop : goal.invariant-loop
invariant-loop g l =
    (goal.iterator-loop g).can_next l.iterator'
    × (goal.iterator-loop g).is_finite l.iterator'
    × StaysInStep l.fn.out.stream.written l.fn.self.collector l.out.stream.written l.self.collector
    × (l.out.stream.failed ≡ false)
