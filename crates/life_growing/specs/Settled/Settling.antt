-- The ash that a set falls apart into.
use Rattle.std.specs.Prelude.{◌≡◌, ℕ, ◌<◌, ◌≤◌, List, get_or, length, refl}
use Rattle.std.specs.Coded.{Coded, code_by, coded_list, coded×}
use Rattle.std.specs.List.{All}
use Rattle.life_model.specs.Coded.{coded_generation}
use Rattle.life_model.specs.Evolution.{generation}
use Rattle.life_model.specs.Generation.{Generation, cells, empty}
use Rattle.life_model.specs.Rule.{Rule}
use Rattle.life_cells.specs.Limits.{IsWithin}
use Rattle.life_objects.specs.Ash.{IsAsh}
use Rattle.life_orbit.specs.Course.{Course, IsCourse, coded_course}
use Rattle.life_apart.specs.Sets.{IsCourseBy, sets_of}
use Rattle.life_ash.specs.Parts.{ash_age_limit}
use Rattle.life_things.specs.Lattice.Short.{way_limit}
use Rattle.life_things.specs.Ways.{IsFit}

-- the generations before the set is ash, and the courses of the parts of that ash
pub record Settling : Type 0 where
  pub early : List Generation
  pub parts : List Course

abbrev pub coded_settling : Coded Settling
coded_settling =
    code_by (List Generation × List Course) (coded× (coded_list coded_generation) (coded_list coded_course))
    (λ s. (s.early, s.parts)) (λ p. record { early = p.0; parts = p.1 }) (λ _. refl)

-- the list has the first generations of P
abbrev pub AreFirstGenerations : Rule → Generation → List Generation → Type 0
AreFirstGenerations R P early = (n : ℕ) → n < length early → get_or early n empty ≡ generation R P n

-- P becomes ash of these parts within b, after these generations.
pub record IsSettling (R : Rule) (b : ℕ) (P : Generation) (s : Settling) : Type 0 where
  pub early : AreFirstGenerations R P s.early
  pub sooner : length s.early ≤ b
  pub ash : IsAsh R b (generation R P (length s.early)) (sets_of s.parts)
  pub rule : All (IsCourseBy R) s.parts
  pub courses : All IsCourse s.parts

-- its cells are in the field at age 400,000
abbrev pub IsInField : Generation → Type 0
IsInField P = All (IsWithin ash_age_limit) (cells P)

-- its period and its displacement make a way that a thing may have
abbrev pub HasFitWay : Course → Type 0
HasFitWay o = IsFit (o.period, o.displacement)

-- These are the parts of some ash, by one rule, within a bound that a way may take.
pub record AreShortParts (parts : List Course) : Type 0 where
  pub rule : Rule
  pub bound : ℕ
  pub set : Generation
  pub few : bound ≤ way_limit
  pub ash : IsAsh rule bound set (sets_of parts)
  pub by : All (IsCourseBy rule) parts

-- The limits on what is kept: few generations, in the field, and parts whose ways things may have.
pub record IsKept (s : Settling) : Type 0 where
  pub few : length s.early ≤ way_limit
  pub early : All IsInField s.early
  pub ways : All HasFitWay s.parts
