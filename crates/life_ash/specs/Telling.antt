-- The conclusions from later generations about a set.
use Rattle.std.specs.Prelude.{ℕ, ◌≤◌, List}
use Rattle.std.specs.Bool.{OnTrue}
use Rattle.std.specs.List.{All}
use Rattle.life_model.specs.Generation.{Generation}
use Rattle.life_model.specs.Rule.{Rule}
use Rattle.life_objects.specs.Ash.{IsAsh}
use Rattle.life_apart.specs.Sets.{IsCourseBy, sets_of}
use Rattle.life_ash.specs.Ahead.{IsAshThen}
use Rattle.life_ash.specs.Fates.{EndsLater}
use Rattle.life_ash.specs.Parts.{ash_age_limit}
use Rattle.life_ash.specs.declared.at_bound.AtBound.{AtBound}
use Rattle.life_ash.specs.declared.at_bound.AtBound.TheVariants.{Ash, NoAsh}
use Rattle.life_ash.specs.declared.told.Told.{Told}
use Rattle.life_ash.specs.declared.told.Told.TheVariants.{Never, Nothing, Parts}

-- after `ago` generations H is ash of these parts within b, or H itself is no ash
abbrev pub IsTold : Rule → ℕ → Generation → Told → Type 0
IsTold R b H (Parts parts ago) = (ago ≤ ash_age_limit) × IsAshThen R b H ago parts.items
IsTold R b H Never = (parts : List Generation) → IsAsh R b H parts → ⊥
IsTold R b H Nothing = Unit {0}

-- this holds if neither is known
abbrev pub IfUntold : Told → Type 0 → Type 0
IfUntold (Parts parts ago) A = Unit {0}
IfUntold Never A = Unit {0}
IfUntold Nothing A = A

-- H is ash of these parts within b; or H is no ash, and if `ends` it becomes ash later
abbrev pub IsAtBound : Rule → ℕ → Generation → AtBound → Type 0
IsAtBound R b H (Ash parts) = IsAsh R b H (sets_of parts) × All (IsCourseBy R) parts
IsAtBound R b H (NoAsh ends) = ((parts : List Generation) → IsAsh R b H parts → ⊥) × OnTrue ends (EndsLater R H)
