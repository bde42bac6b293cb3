use Rattle.std.specs.List.{All}
use Rattle.life_cells.specs.Limits.{IsPlace}
use Rattle.life_strays.specs.Strays.{IsHeir}
use Rattle.life_strays.proofs.heirs.heirs_of.Given as goal

abbrev pub invariant-loop-n : goal.invariant-loop-n
invariant-loop-n g l = record {
  placed : All IsPlace l.heirs.items;
  heirs : All (IsHeir (g.P.Plane.members l.plane) l.cells) l.heirs.items;
}
