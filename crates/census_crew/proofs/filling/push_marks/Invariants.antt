use Rattle.std.proofs.Common.{◌≡◌, ◌++◌}
use Rattle.crossbeam_deque.specs.Handles.{worker_view}
use Rattle.census_crew.specs.Items.{end_marks}
use Rattle.census_crew.specs.Fillings.{IsFilling}
use Rattle.census_crew.proofs.filling.push_marks.Given as goal

abbrev pub invariant-loop-before : goal.invariant-loop-before
invariant-loop-before l = record { filling : IsFilling l.owner 0; pushed : (worker_view l.owner).filled ≡ (worker_view l.initial.owner).filled ++ end_marks l.before }
