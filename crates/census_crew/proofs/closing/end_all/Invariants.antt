use Rattle.std.proofs.Common.{◌≡◌, ◌++◌, length, map, All}
use Rattle.std.specs.Vec.Iter.{into_iter_items, into_iter_len}
use Rattle.crossbeam_deque.specs.Handles.{stealer_deque, worker_deque, worker_view}
use Rattle.census_crew.specs.Fillings.{IsEnding}
use Rattle.census_crew.specs.Feeds.{list_of}
use Rattle.census_crew.proofs.closing.end_all.Given as goal

abbrev pub invariant-loop-hand : goal.invariant-loop-hand
invariant-loop-hand l = record {
  order : l.yielded ++ into_iter_items l.hand-iterator ≡ into_iter_items l.initial.hand-iterator;
  as_many : into_iter_len l.hand-iterator ≡ length (into_iter_items l.hand-iterator);
  its : All (λ h. stealer_deque h.stealer ≡ worker_deque l.owner) (into_iter_items l.hand-iterator);
  ending : IsEnding l.owner;
  ended : worker_view l.owner ≡ record (worker_view l.initial.owner) { ended = map list_of l.yielded };
}
