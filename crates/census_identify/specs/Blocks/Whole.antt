-- The recurrence of a set of cells as a whole.
use Rattle.std.specs.Prelude.{◌≡◌, ℕ, ◌<◌, ◌≤◌, Option, Some, None}
use Rattle.life_model.specs.Cell.{Cell, origin}
use Rattle.life_model.specs.Generation.{Generation, empty}
use Rattle.life_model.specs.Recurrence.{RecursBy}
use Rattle.life_model.specs.Rule.{Rule}
use Rattle.life_answer.specs.declared.finding.Outcome.{Outcome}
use Rattle.life_answer.specs.declared.finding.Outcome.TheVariants.{Recurs}
use Rattle.census_identify.specs.declared.blocks.whole.Whole.{Whole}

-- G first recurs after this period, with this displacement
pub record ComesAgain (R : Rule) (G : Generation) (most : ℕ) (whole : Whole) : Type 0 where
  pub within : whole.period ≤ most
  pub recurs : RecursBy R G whole.period whole.displacement
  pub least : (n : ℕ) (d : Cell) → RecursBy R G n d → whole.period ≤ n
  pub unmoved : G ≡ empty → whole.displacement ≡ origin

-- the first recurrence of G within `most` generations, where there is one
abbrev pub IsWholeWithin : Rule → Generation → ℕ → Option Whole → Type 0
IsWholeWithin R G most (Some whole) = ComesAgain R G most whole
IsWholeWithin R G most None = (n : ℕ) (d : Cell) → RecursBy R G n d → most < n

-- the period and the displacement of a pattern that recurs
abbrev pub whole_in : Outcome → Option Whole
whole_in (Recurs onset period dx dy code) = Some (record { period = period; displacement = (dx, dy) })
whole_in _ = None
