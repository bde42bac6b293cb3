-- Cells of a set at most one away from a place.
use Rattle.std.specs.Prelude.{◌≡◌, ℕ, ◌<◌, ℤ, ◌≤ℤ◌, true, List, length, get_or}
use Rattle.life_model.specs.Cell.{Cell, IsNear, origin}
use Rattle.life_model.specs.Generation.{Generation, cells, contains}
use Rattle.life_classes.specs.Tags.{place_number}

-- some cell of G is at most one away from c
abbrev pub IsTouched : Generation → Cell → Type 0
IsTouched G c = (g : Cell) × (contains G g ≡ true) × IsNear c g

-- the cell at place m of G is at most one away from c, and is c itself if G has c
pub record IsBearer (G : Generation) (c : Cell) (m : ℕ) : Type 0 where
  pub within : m < length (cells G)
  pub near : IsNear c (get_or (cells G) m origin)
  pub own : contains G c ≡ true → get_or (cells G) m origin ≡ c

-- the number of the cell at place n is from `low` to `high`
pub record IsBetween (cs : List Cell) (low high : ℤ) (n : ℕ) : Type 0 where
  pub within : n < length cs
  pub from : low ≤ℤ place_number (get_or cs n origin)
  pub to : place_number (get_or cs n origin) ≤ℤ high
