-- Generations that do not exceed a limit on the number of cells.
use Rattle.std.specs.Prelude.{ℕ, ◌<◌, Option}
use Rattle.life_model.specs.Evolution.{generation}
use Rattle.life_model.specs.Generation.{Generation, size}
use Rattle.life_model.specs.Rule.{Rule}
use Rattle.life_answer.specs.Limited.{IsAllowed}

-- no generation before this one is past the limit
abbrev pub AreAllowedBefore : Rule → Generation → Option ℕ → ℕ → Type 0
AreAllowedBefore R G limit n = (m : ℕ) → m < n → IsAllowed limit (size (generation R G m))
