-- The invariant of a map of counts.
use Rattle.std.specs.Prelude.{◌≡◌, ℕ, ◌≤◌, List, length}
use Rattle.census_format.specs.Objects.{Object, same_object, tally}

-- the map counts some objects, at most `limit`
pub record HasTally (entries : List (Object × ℕ)) (limit : ℕ) : Type 0 where
  pub objects : List Object
  pub few : length objects ≤ limit
  pub is : entries ≡ tally same_object objects
