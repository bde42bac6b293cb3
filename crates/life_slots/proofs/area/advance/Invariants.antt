use Rattle.std.proofs.Common.{◌≡◌, ℕ, pos, ◌+◌, ◌*◌, ◌<◌, ◌≤◌}
use Rattle.life_model.specs.Rule.{Rule}
use Rattle.life_model.specs.Cell.{Cell, plus}
use Rattle.life_model.specs.Generation.{Generation}
use Rattle.life_model.specs.Evolution.{next}
use Rattle.life_plane.specs.Area.{tile_cell}
use Rattle.life_plane.specs.Logics.{IsLogicOf}
use Rattle.life_slots.specs.Kernels.Rows.{state}
use Rattle.life_slots.specs.Areas.{ShowsWithin}
use Rattle.life_slots.proofs.area.advance.Given as goal

abbrev pub invariant-loop-i : goal.invariant-loop-i
invariant-loop-i l = record {
  done : (rule : Rule) → IsLogicOf l.logic rule → (G : Generation) (place : Cell) → ShowsWithin l.rim l.here G place →
      (x y : ℕ) → l.rim + 1 ≤ x → x + (l.rim + 1) < 64 → l.rim + 1 ≤ y → y + (l.rim + 1) < 64 → y < 8 * l.i →
      tile_cell l.there x y ≡ state (next rule G) (plus place (pos x, pos y));
}
