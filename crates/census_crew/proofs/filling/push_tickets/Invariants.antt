use Rattle.std.proofs.Common.{◌≡◌, ◌+◌, ◌++◌, drop}
use Rattle.crossbeam_deque.specs.Handles.{worker_view}
use Rattle.census_crew.specs.Items.{tickets, tickets_from}
use Rattle.census_crew.specs.Fillings.{IsFilling}
use Rattle.census_crew.proofs.filling.push_tickets.Given as goal

abbrev pub invariant-loop-folder : goal.invariant-loop-folder
invariant-loop-folder l = record {
  number : l.number ≡ l.folder-index + 1;
  filling : IsFilling l.owner 0;
  left : (worker_view l.owner).filled ++ tickets_from l.number (drop l.folder-index l.folders) ≡ tickets l.folders;
}
