-- Sets that come back in a later generation, with the rest of it falling apart.
use Rattle.std.specs.Prelude.{ℕ, neg_ℤ, pos, ◌≤ℤ◌}
use Rattle.life_model.specs.Cell.{Cell}
use Rattle.life_model.specs.Generation.{Generation}
use Rattle.life_model.specs.Rule.{Rule}
use Rattle.life_model.specs.Symmetry.{translate_of}
use Rattle.life_objects.specs.Union.{IsSubsetOf}
use Rattle.life_apart.specs.Alone.{others_of}
use Rattle.life_growth.specs.Engine.{FallsApart}

-- the cells of G without E moved by d
abbrev pub left_by : Generation → Generation → Cell → Generation
left_by G E d = others_of G (translate_of E d)

-- All of E, moved by d, is in G, and the rest of G falls apart within b.
pub record ComesBackBy (R : Rule) (b : ℕ) (E G : Generation) (d : Cell) : Type 0 where
  pub among : IsSubsetOf (translate_of E d) G
  pub settles : FallsApart R b (left_by G E d)

-- the greatest distance along each axis of a move from one place of a list of cells to another
abbrev pub move_limit : ℕ
move_limit = 33554431

pub record IsMove (d : Cell) : Type 0 where
  pub left : neg_ℤ (pos move_limit) ≤ℤ d.0
  pub right : d.0 ≤ℤ pos move_limit
  pub above : neg_ℤ (pos move_limit) ≤ℤ d.1
  pub below : d.1 ≤ℤ pos move_limit
