use Rattle.std.proofs.Common.{◌≡◌, [], false}
use Rattle.census_book.specs.Counts.{missing_count}
use Rattle.census_crew.specs.Writing.{StaysInStep}
use Rattle.census_crew.proofs.run_state.RunState.catch_up.Given as goal

abbrev pub invariant-loop-ticket : goal.invariant-loop-ticket
invariant-loop-ticket g l = record {
  step : StaysInStep l.fn.out.stream.written l.fn.self.collector l.out.stream.written l.self.collector;
  sound : l.out.stream.failed ≡ false;
  sent : l.self.collector.unsent ≡ [];
  strangers : l.self.tally.strangers ≡ l.fn.self.tally.strangers;
}

abbrev pub decreases-loop-ticket : goal.decreases-loop-ticket
decreases-loop-ticket g l = missing_count l.self.collector.bundle l.self.collector.taken
