-- The outcome of a pattern whose generations may have no more than some number of cells.
use Rattle.std.specs.Prelude.{◌≤◌, ℕ, suc, Option, Some, None, nat_lt}
use Rattle.life_model.specs.Rule.{Rule}
use Rattle.life_model.specs.Generation.{Generation, size}
use Rattle.life_model.specs.Evolution.{generation}
use Rattle.life_answer.specs.Recurrence.{first_from}
use Rattle.life_answer.specs.declared.finding.Outcome.{Outcome}
use Rattle.life_answer.specs.declared.finding.Outcome.TheVariants.{Large}

-- the first generation from 0 to the last that has more than `most` cells
unfoldable pub first_larger : Rule → Generation → ℕ → ℕ → Option ℕ
first_larger R G most last = first_from (λ n. nat_lt most (size (generation R G n))) 0 (suc last)

-- the first generation from 0 to the last that has more cells than the limit, if there is one
abbrev pub first_past : Option ℕ → Rule → Generation → ℕ → Option ℕ
first_past None R G last = None
first_past (Some most) R G last = first_larger R G most last

-- an outcome, unless a generation is too large
abbrev pub unless_large : Outcome → Option ℕ → Outcome
unless_large outcome None = outcome
unless_large outcome (Some n) = Large n

-- An outcome, unless a generation from 0 to the last has more cells than it may have.
abbrev pub outcome_unless_large : Option ℕ → Rule → Generation → ℕ → Outcome → Outcome
outcome_unless_large limit R G last outcome = unless_large outcome (first_past limit R G last)

-- `count` cells are allowed
abbrev pub IsAllowed : Option ℕ → ℕ → Type 0
IsAllowed None count = Unit {0}
IsAllowed (Some most) count = count ≤ most

-- no generation from 0 to the last has more cells than it may have
abbrev pub StaysWithin : Option ℕ → Rule → Generation → ℕ → Type 0
StaysWithin limit R G last = (n : ℕ) → n ≤ last → IsAllowed limit (size (generation R G n))
