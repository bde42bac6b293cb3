-- The stored form of a set that recurs: its generations over one period.
use Rattle.std.specs.Prelude.{◌≡◌, ℕ, ◌+◌, ◌<◌, ◌≤◌, List, length, slice_index_or}
use Rattle.std.specs.List.{All}
use Rattle.life_model.specs.Cell.{Cell}
use Rattle.life_model.specs.Evolution.{generation}
use Rattle.life_model.specs.Generation.{Generation, cells, empty}
use Rattle.life_model.specs.Recurrence.{RecursBy}
use Rattle.life_model.specs.Rule.{Rule}
use Rattle.life_cells.specs.Limits.{IsWithin}
use Rattle.life_objects.specs.Limits.{objects_bound_limit}

-- orbits are made only of sets whose cells are within the places of this age
abbrev pub orbit_age_limit : ℕ
orbit_age_limit = 4000000

-- the sets of the list are the first generations of G
abbrev pub ArePhases : Rule → Generation → List Generation → Type 0
ArePhases R G list = (k : ℕ) → k < length list → slice_index_or list k empty ≡ generation R G k

-- the list is the generations of G until it recurs, moved by d
pub record ArePhasesOfOrbit (R : Rule) (G : Generation) (list : List Generation) (d : Cell) : Type 0 where
  pub phases : ArePhases R G list
  pub recurs : RecursBy R G (length list) d
  pub least : (n : ℕ) (e : Cell) → RecursBy R G n e → length list ≤ n
  pub short : length list ≤ objects_bound_limit

-- the list is the generations of G before `here`, and G has not recurred so far
pub record IsOrbitWalk (R : Rule) (G : Generation) (taken : ℕ) (list : List Generation) (here : Generation) : Type 0 where
  pub count : length list ≡ taken
  pub phases : ArePhases R G list
  pub reached : here ≡ generation R G taken
  pub within : All (IsWithin (orbit_age_limit + taken)) (cells here)
  pub new : (n : ℕ) (d : Cell) → n ≤ taken → RecursBy R G n d → ⊥
