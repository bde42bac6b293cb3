use Rattle.std.proofs.Common.{ℕ, ◌+◌, ◌≤◌, ◌<◌}
use Rattle.life_model.specs.Evolution.{generation}
use Rattle.life_objects.specs.Piece.{IsUndivided}
use Rattle.life_ash.proofs.whole.is_one_piece.Given as goal

-- none of the phases from the end on is divided
abbrev pub invariant-loop-end : goal.invariant-loop-end
invariant-loop-end g l = record {
  some : 1 ≤ l.step;
  short : l.step ≤ l.bound;
  within : l.end ≤ l.orbit.period;
  whole : (m : ℕ) → l.end ≤ m → m < l.orbit.period → IsUndivided l.rule l.bound (generation l.rule l.orbit.set m);
}

abbrev pub decreases-loop-end : goal.decreases-loop-end
decreases-loop-end g l = l.end + l.step
