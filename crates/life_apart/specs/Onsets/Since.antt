-- The generation since which sets that recur are apart.
use Rattle.std.specs.Prelude.{◌≡◌, ◌⊎◌, ℕ, ◌<◌, ◌≤◌, List, length, slice_index_or}
use Rattle.std.specs.List.{All, AllPairs}
use Rattle.life_model.specs.Cell.{origin}
use Rattle.life_model.specs.Evolution.{generation}
use Rattle.life_model.specs.Generation.{Generation}
use Rattle.life_model.specs.Rule.{Rule}
use Rattle.life_objects.specs.Apart.{AreApartForEver}
use Rattle.life_objects.specs.Union.{generations}
use Rattle.life_orbit.specs.Course.{Course, IsCourse}
use Rattle.life_apart.specs.Onsets.Pasts.{IsCourseBy, past_of, pasts, sets_of}

-- any two of the sets are apart for ever from generation t on
abbrev pub AreApartFrom : Rule → List Generation → ℕ → Type 0
AreApartFrom R Ps t = AllPairs (AreApartForEver R) (generations R Ps t)

-- From generation t on, any two of the sets are apart for ever, and t is the first such generation.
pub record AreAllApartSince (R : Rule) (Ps : List Generation) (t : ℕ) : Type 0 where
  pub apart : AreApartFrom R Ps t
  pub first : (n : ℕ) → AreApartFrom R Ps n → t ≤ n

-- sets that recur by this rule, of which any two stay apart for ever
pub record AreApartCourses (R : Rule) (os : List Course) : Type 0 where
  pub rule : All (IsCourseBy R) os
  pub courses : All IsCourse os
  pub apart : AllPairs (AreApartForEver R) (sets_of os)

-- The sets are not all apart for ever from any generation before t on.
abbrev pub IsNeeded : Rule → ℕ → List Course → ℕ → Type 0
IsNeeded R age os t = (n : ℕ) → AreApartFrom R (pasts age os) n → t ≤ n

-- the sets at two places, as they were, are apart for ever from generation t on, or the places are the same
abbrev pub ArePlacesApartFrom : Rule → ℕ → List Course → ℕ → ℕ → ℕ → Type 0
ArePlacesApartFrom R age os t i j =
    (i ≡ j) ⊎ ((e : Course) → AreApartForEver R (generation R (past_of age (slice_index_or os i e)) t)
    (generation R (past_of age (slice_index_or os j e)) t))

-- this holds for the set at one place and each of the others
abbrev pub IsPlaceApartFrom : Rule → ℕ → List Course → ℕ → ℕ → Type 0
IsPlaceApartFrom R age os t i = (j : ℕ) → j < length os → ArePlacesApartFrom R age os t i j

-- this holds if the set at the place moves
abbrev pub IsMoverApartFrom : Rule → ℕ → List Course → ℕ → ℕ → Type 0
IsMoverApartFrom R age os t i =
    (e : Course) → ((slice_index_or os i e).displacement ≡ origin → ⊥) → IsPlaceApartFrom R age os t i
