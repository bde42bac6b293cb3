use Rattle.std.proofs.Common.{◌≡◌, ◌-◌, ◌≤◌, length}
use Rattle.std.specs.List.{count_by}
use Rattle.crossbeam_deque.specs.Handles.{worker_flavor, worker_view}
use Rattle.census_crew.specs.Items.{is_ticket}
use Rattle.census_crew.proofs.closing.pop_all.Given as goal

abbrev pub invariant-loop-item : goal.invariant-loop-item
invariant-loop-item l = record {
  fifo : worker_flavor l.owner ≡ 0;
  same : worker_view l.owner ≡ record (worker_view l.initial.owner) { taken = (worker_view l.owner).taken };
  within : length (worker_view l.owner).taken ≤ length (worker_view l.owner).filled;
  counted : l.left ≡ count_by is_ticket (worker_view l.owner).taken;
}

abbrev pub decreases-loop-item : goal.decreases-loop-item
decreases-loop-item l = length (worker_view l.owner).filled - length (worker_view l.owner).taken
