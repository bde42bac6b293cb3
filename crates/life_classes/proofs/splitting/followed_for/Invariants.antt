use Rattle.std.proofs.Common.{◌≡◌, ◌+◌, ◌-◌, ◌≤◌}
use Rattle.life_classes.specs.Splits.{IsLabelledSplit, classes_of_split}
use Rattle.life_classes.specs.Tracking.{AreApartNow, AreTracked}
use Rattle.life_classes.proofs.splitting.followed_for.Given as goal

abbrev pub invariant-loop-made : goal.invariant-loop-made
invariant-loop-made g l = record {
  within : l.made ≤ l.bound;
  aged : g.P.Plane.steps_made l.plane ≡ g.P.Plane.steps_made l.fn.plane + l.made;
  cells : l.split.last.cells ≡ g.P.Plane.members l.plane;
  labelled : IsLabelledSplit l.split;
  tracked : AreTracked l.rule l.bound l.made (g.P.Plane.members l.fn.plane) (classes_of_split l.split);
  apart : AreApartNow (classes_of_split l.split);
}

abbrev pub decreases-loop-made : goal.decreases-loop-made
decreases-loop-made g l = l.bound - l.made
