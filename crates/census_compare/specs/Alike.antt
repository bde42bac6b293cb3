-- Sets that are the same up to a move and the eight maps of the plane.
use Rattle.std.specs.Prelude.{◌≡◌, ℕ, List}
use Rattle.life_model.specs.Generation.{Generation}
use Rattle.life_model.specs.Symmetry.{Orientation, image_under, normal}
use Rattle.life_cells.specs.TextOrder.{least_text}
use Rattle.life_answer.specs.Apgcode.{turned_bodies}

-- one of the eight maps takes the first to the second, but for a move
pub record AreAlike (G H : Generation) : Type 0 where
  pub map : Orientation
  pub shape : normal (image_under G map) ≡ normal H

-- the least Wechsler text of a set in all eight orientations
abbrev pub least_body : Generation → List ℕ
least_body G = least_text (turned_bodies G)
