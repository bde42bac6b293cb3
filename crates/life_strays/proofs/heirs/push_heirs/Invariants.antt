use Rattle.std.proofs.Common.{◌≡◌, true}
use Rattle.std.specs.List.{All}
use Rattle.life_cells.specs.Limits.{IsPlace}
use Rattle.life_model.specs.Generation.{Generation, contains}
use Rattle.life_strays.specs.Strays.{IsHeir}
use Rattle.life_strays.proofs.heirs.push_heirs.Given as goal

abbrev pub invariant-loop-n : goal.invariant-loop-n
invariant-loop-n g l = record {
  placed : All IsPlace l.heirs.items;
  heirs : (K : Generation) → contains K l.cell ≡ true → All (IsHeir (g.P.Plane.members l.plane) K) l.fn.heirs.items →
      All (IsHeir (g.P.Plane.members l.plane) K) l.heirs.items;
}
