-- Conditions on the parts of ash.
use Rattle.std.specs.Prelude.{◌≡◌, ℕ, ◌<◌, ◌≤◌, List, length, slice_index_or}
use Rattle.std.specs.List.{All}
use Rattle.life_model.specs.Evolution.{generation}
use Rattle.life_model.specs.Generation.{Generation, cells}
use Rattle.life_model.specs.Rule.{Rule}
use Rattle.life_cells.specs.Limits.{IsWithin}
use Rattle.life_objects.specs.Ash.{RecursWithin}
use Rattle.life_orbit.specs.Course.{Course, IsCourse}

-- the greatest age of a plane whose cells are reported as ash
abbrev pub ash_age_limit : ℕ
ash_age_limit = 400000

-- its set is in the field at age 400,000
abbrev pub IsPlaced : Course → Type 0
IsPlaced o = All (IsWithin ash_age_limit) (cells o.set)

-- it recurs by this rule within the bound, and its set is in the field at age 400,000
pub record IsFit (R : Rule) (b : ℕ) (o : Course) : Type 0 where
  pub rule : o.rule ≡ R
  pub recurs : IsCourse o
  pub period : o.period ≤ b
  pub within : IsPlaced o

-- P is in the field at age 400,000, recurs within the bound, and becomes the set `last` after `ago` generations
pub record IsEnd (R : Rule) (b ago : ℕ) (last P : Generation) : Type 0 where
  pub within : All (IsWithin ash_age_limit) (cells P)
  pub recurs : RecursWithin R b P
  pub end : generation R P ago ≡ last

-- Only the set that recurs like this can have become the set `last`.
abbrev pub IsOnlyOne : Rule → ℕ → ℕ → Generation → Course → Type 0
IsOnlyOne R b ago last o = (P : Generation) → IsEnd R b ago last P → o.set ≡ P

-- one course for each of the sets, in order
pub record AreEndsOfCourses (R : Rule) (b ago : ℕ) (ends : List Generation) (courses : List Course) : Type 0 where
  pub count : length courses ≡ length ends
  pub only : (k : ℕ) (e : Course) (d : Generation) → k < length courses →
      IsOnlyOne R b ago (slice_index_or ends k d) (slice_index_or courses k e)
