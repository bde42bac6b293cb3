use Rattle.std.proofs.Common.{◌≡◌, length, All}
use Rattle.crossbeam_deque.specs.Handles.{worker_deque, worker_view}
use Rattle.census_crew.specs.Fillings.{IsFilling}
use Rattle.census_crew.specs.Feeds.{IsNew}
use Rattle.census_crew.proofs.filling.deal.Given as goal

abbrev pub invariant-loop-begun : goal.invariant-loop-begun
invariant-loop-begun l = record {
  filling : IsFilling l.owner l._begun;
  filled : (worker_view l.owner).filled ≡ (worker_view l.initial.owner).filled;
  deque : worker_deque l.owner ≡ worker_deque l.initial.owner;
  as_many : length l.hands.items ≡ l._begun;
  new : All (IsNew l.owner) l.hands.items;
}
