-- The findings about a pattern on its way from generation to generation.
use Rattle.std.specs.Prelude.{◌≡◌, ℕ, ◌*◌, ◌<◌, ◌≤◌, List, None, Option, Some}
use Rattle.std.specs.List.{All}
use Rattle.life_model.specs.Evolution.{generation}
use Rattle.life_model.specs.Generation.{Generation}
use Rattle.life_model.specs.Rule.{Rule}
use Rattle.life_answer.specs.Limited.{first_past}
use Rattle.life_objects.specs.Ash.{IsAsh}
use Rattle.life_orbit.specs.Course.{Course, IsCourse}
use Rattle.life_ash.specs.Allowed.{AreAllowedBefore}
use Rattle.life_ash.specs.Fates.{IsSmallEnough}
use Rattle.life_apart.specs.Sets.{IsCourseBy, sets_of}
use Rattle.life_ash.specs.Parts.{IsPlaced, ash_age_limit}
use Rattle.life_ash.specs.declared.found.Found.{Found}
use Rattle.life_ash.specs.declared.found.Found.TheVariants.{Large, Nothing, Parts}

-- generation n of G is ash of these parts within b
pub record IsAshThen (R : Rule) (b : ℕ) (G : Generation) (n : ℕ) (parts : List Course) : Type 0 where
  pub ash : IsAsh R b (generation R G n) (sets_of parts)
  pub rule : All (IsCourseBy R) parts
  pub placed : All IsPlaced parts
  pub courses : All IsCourse parts

-- The finding about G from an age on, before the end: ash, in which case no generation up to the last is past the limit; the
-- first generation up to the last that is past it; or neither, in which case no generation before the end is past it.
abbrev pub IsFound : Rule → ℕ → Generation → Option ℕ → ℕ → ℕ → ℕ → Found → Type 0
IsFound R b G limit from end last (Parts parts age) =
    (from ≤ age) × (age < end) × (first_past limit R G last ≡ None) × IsAshThen R b G age parts.items
IsFound R b G limit from end last (Large n) = first_past limit R G last ≡ Some n
IsFound R b G limit from end last Nothing = AreAllowedBefore R G limit end

-- if nothing is found up to the end, the plane is as old as the end
abbrev pub HasEnded : ℕ → ℕ → Found → Type 0
HasEnded end age (Parts parts n) = Unit {0}
HasEnded end age (Large n) = Unit {0}
HasEnded end age Nothing = age ≡ end

-- this holds if nothing is found
abbrev pub IfNothing : Found → Type 0 → Type 0
IfNothing (Parts parts age) A = Unit {0}
IfNothing (Large n) A = Unit {0}
IfNothing Nothing A = A

-- The finding about G from generation b on: ash in a later generation, the first generation up to three times b that is past
-- the limit, or neither.
abbrev pub IsFoundPast : Rule → ℕ → Generation → Option ℕ → Found → Type 0
IsFoundPast R b G limit (Parts parts age) =
    (b ≤ age) × (age ≤ ash_age_limit) × IsSmallEnough R G b limit × IsAshThen R b G age parts.items
IsFoundPast R b G limit (Large n) = first_past limit R G (3 * b) ≡ Some n
IsFoundPast R b G limit Nothing = IsSmallEnough R G b limit
