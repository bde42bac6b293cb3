use Rattle.std.proofs.Common.{◌≡◌, ℕ, ◌+◌, ◌≤◌}
use Rattle.life_model.specs.Evolution.{generation}
use Rattle.life_classes.specs.Splits.{IsLabelledSplit, classes_of_split}
use Rattle.life_classes.specs.Tracking.{AreApartNow, AreTracked}
use Rattle.life_classes.proofs.undivided.is_undivided.Given as goal

-- The classes are tracked for any number of generations that are still to go.
abbrev pub invariant-loop : goal.invariant-loop
invariant-loop g l = record {
  members : g.P.Plane.members l.plane ≡ generation l.rule (g.P.Plane.members l.fn.plane) l.counter;
  aged : g.P.Plane.steps_made l.plane ≡ g.P.Plane.steps_made l.fn.plane + l.counter;
  cells : l.split.last.cells ≡ g.P.Plane.members l.plane;
  labelled : IsLabelledSplit l.split;
  tracked : (k : ℕ) → l.counter ≤ k → AreTracked l.rule k l.counter (g.P.Plane.members l.fn.plane) (classes_of_split l.split);
  apart : AreApartNow (classes_of_split l.split);
}
