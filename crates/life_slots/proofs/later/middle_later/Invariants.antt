use Rattle.std.proofs.Common.{◌*◌}
use Rattle.life_model.specs.Rule.{Rule}
use Rattle.life_model.specs.Cell.{Cell}
use Rattle.life_model.specs.Generation.{Generation}
use Rattle.life_model.specs.Evolution.{generation}
use Rattle.life_plane.specs.Logics.{IsLogicOf}
use Rattle.life_slots.specs.Areas.{ShowsWithin}
use Rattle.life_slots.specs.Leaves.{ShowsFour}
use Rattle.life_slots.proofs.later.middle_later.Given as goal

abbrev pub invariant-loop-twice : goal.invariant-loop-twice
invariant-loop-twice l = record {
  shows : (rule : Rule) → IsLogicOf l.logic rule → (G : Generation) (place : Cell) → ShowsFour l.four G place →
      ShowsWithin (2 * l.twice) l.here (generation rule G (2 * l.twice)) place;
}
