-- Lists of cells to which those of a set are added.
use Rattle.std.specs.Prelude.{◌≡◌, ◌⊎◌, ℕ, pos, negsuc, true, ◌≤ℤ◌, ◌<◌, List}
use Rattle.std.specs.List.{list_any}
use Rattle.life_model.specs.Cell.{Cell, plus, same_cell}
use Rattle.life_model.specs.Generation.{Generation, contains}
use Rattle.life_slots.specs.Limits.{reach_limit}

-- the cell is in the list
abbrev pub IsListed : List Cell → Cell → Type 0
IsListed cells q = list_any (same_cell q) cells ≡ true

-- All cells of a set in `wide` columns and `high` rows from a place on were added, and no cell that is not in the set.
pub record AddsCells (wide high : ℕ) (place : Cell) (G : Generation) (old new : List Cell) : Type 0 where
  pub kept : (q : Cell) → IsListed old q → IsListed new q
  pub all : (x y : ℕ) → x < wide → y < high → contains G (plus place (pos x, pos y)) ≡ true →
      IsListed new (plus place (pos x, pos y))
  pub only : (q : Cell) → IsListed new q → IsListed old q ⊎ (contains G q ≡ true)

-- a place far from the limits of 32-bit numbers
pub record IsInReach (place : Cell) : Type 0 where
  pub west : negsuc reach_limit ≤ℤ place.0
  pub east : place.0 ≤ℤ pos reach_limit
  pub north : negsuc reach_limit ≤ℤ place.1
  pub south : place.1 ≤ℤ pos reach_limit
