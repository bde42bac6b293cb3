use Rattle.std.proofs.Common.{◌≡◌, [], false}
use Rattle.census_crew.specs.Writing.{StaysInStep}
use Rattle.census_crew.proofs.run_state.RunState.try_each.Given as goal

abbrev pub invariant-loop-i : goal.invariant-loop-i
invariant-loop-i g l = record {
  step : StaysInStep l.fn.out.stream.written l.fn.self.collector l.out.stream.written l.self.collector;
  sound : l.out.stream.failed ≡ false;
  sent : l.self.collector.unsent ≡ [];
}
