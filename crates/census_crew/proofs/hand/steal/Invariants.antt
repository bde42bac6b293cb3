use Rattle.std.proofs.Common.{◌≡◌}
use Rattle.crossbeam_deque.specs.Handles.{view, IsPassOf, SamePass, stealer_deque}
use Rattle.census_crew.proofs.hand.steal.Given as goal

abbrev pub invariant-loop : goal.invariant-loop
invariant-loop g l = IsPassOf (stealer_deque l.stealer) l.pass × SamePass l.initial.pass l.pass × (view l.pass ≡ view l.initial.pass)
