use Rattle.std.proofs.Common.{◌≡◌, ◌+◌, length}
use Rattle.std.specs.List.{All}
use Rattle.life_model.specs.Evolution.{generation}
use Rattle.life_model.specs.Generation.{cells}
use Rattle.life_cells.specs.Limits.{IsWithin}
use Rattle.life_growing.specs.Settled.Settling.{AreFirstGenerations, IsInField}
use Rattle.life_growing.proofs.settling.walk.settled.Given as goal

abbrev pub invariant-loop-n : goal.invariant-loop-n
invariant-loop-n g l = record {
  members : g.P.Plane.members l.plane ≡ generation l.rule l.cells l.n;
  aged : g.P.Plane.steps_made l.plane ≡ l.age + l.n;
  count : length l.early.items ≡ l.n;
  made : AreFirstGenerations l.rule l.cells l.early.items;
  placed : All (IsWithin (g.P.Plane.steps_made l.plane)) (cells (g.P.Plane.members l.plane));
  within : All IsInField l.early.items;
}
