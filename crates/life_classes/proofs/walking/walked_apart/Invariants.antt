use Rattle.std.proofs.Common.{◌≡◌, ◌+◌}
use Rattle.life_classes.specs.Parted.{IsParted, LeadFor, classes_beside}
use Rattle.life_classes.proofs.walking.walked_apart.Given as goal

abbrev pub invariant-loop-made : goal.invariant-loop-made
invariant-loop-made g l = record {
  parted : IsParted l.parted.first (g.P.Plane.members l.parted.herd) l.parted.rest;
  others : l.parted.rest.last.cells ≡ g.P.Plane.members l.parted.others;
  alike : g.P.Plane.steps_made l.parted.others ≡ g.P.Plane.steps_made l.parted.herd;
  aged : g.P.Plane.steps_made l.parted.herd ≡ g.P.Plane.steps_made l.fn.parted.herd + l.made;
  led : LeadFor l.rule l.made (classes_beside l.fn.parted.first (g.P.Plane.members l.fn.parted.herd) l.fn.parted.rest)
      (classes_beside l.parted.first (g.P.Plane.members l.parted.herd) l.parted.rest);
}
