-- The invariant of a plane that leaps.
use Rattle.std.specs.Prelude.{◌≡◌, ◌≤◌, true}
use Rattle.life_model.specs.Cell.{Cell}
use Rattle.life_model.specs.Generation.{Generation, contains, from_list}
use Rattle.life_cells.specs.Limits.{IsWithin}
use Rattle.life_advance.specs.Leaps.Planes.{farthest_age}
use Rattle.life_advance.specs.declared.leaps.leaping.Leaper.{Leaper}
use Rattle.life_advance.specs.Leaps.Squares.{IsAt}
use Rattle.life_advance.specs.Leaps.Stores.{view}
use Rattle.life_advance.specs.Leaps.Rows.{IsReady}
use Rattle.life_advance.specs.Leaps.Cells.{cells_of}
use Rattle.life_advance.specs.Leaps.Sites.{root_corner, root_level}

-- its cells
unfoldable pub cells_in : Leaper → Generation
cells_in l = from_list (cells_of (view l.store) root_level l.root root_corner)

pub record IsLeaper (l : Leaper) : Type 0 where
  pub ready : IsReady l.step (view l.store)
  pub at : IsAt (view l.store) root_level l.root
  pub young : l.age ≤ farthest_age
  pub within : (q : Cell) → contains (cells_in l) q ≡ true → IsWithin l.age q
