use Rattle.std.proofs.Common.{◌≡◌, ◌<◌, ◌^◌, [], false, length}
use Rattle.std.specs.Vec.Iter.{into_iter_items, into_iter_len}
use Rattle.census_crew.specs.Writing.{StaysInStep}
use Rattle.census_crew.proofs.Settles.{CountedBefore}
use Rattle.census_crew.proofs.run_state.RunState.take_all.Given as goal

abbrev pub invariant-loop-done : goal.invariant-loop-done
invariant-loop-done g l = record {
  as_many : into_iter_len l.done-iterator ≡ length (into_iter_items l.done-iterator);
  step : StaysInStep l.fn.out.stream.written l.fn.self.collector l.out.stream.written l.self.collector;
  sound : l.out.stream.failed ≡ false;
  sent : l.self.collector.unsent ≡ [];
  small : length (into_iter_items l.initial.done-iterator) < 2 ^ 64;
  counted : CountedBefore l.fn.self.collector.bundle l.fn.self.collector.question (into_iter_items l.initial.done-iterator) (into_iter_items l.done-iterator) l.self.tally.strangers;
}
