-- The bound within which growth is looked for, where no generation may have more than some number of cells.
use Rattle.std.specs.Prelude.{ℕ, zero, suc, ◌*◌, List, Option, Some, None, is_none, if◌then◌else◌}
use Rattle.life_model.specs.Rule.{Rule}
use Rattle.life_model.specs.Generation.{Generation}
use Rattle.life_answer.specs.Limited.{first_past}
use Rattle.life_answer.specs.declared.finding.Outcome.{Outcome}
use Rattle.life_answer.specs.declared.finding.Outcome.TheVariants.{Grows}
use Rattle.life_answer.specs.declared.tale.Engines.{Engines}

-- The greatest bound from 1 to b such that no generation up to four times that bound has more cells than it may have; 0
-- if there is none.
unfoldable pub allowed_bound : Option ℕ → Rule → Generation → ℕ → ℕ
allowed_bound limit R G zero = 0
allowed_bound limit R G (suc b) =
    if is_none (first_past limit R G (4 * suc b)) then suc b else allowed_bound limit R G b

-- growth, if engines are reported, and otherwise another outcome
abbrev pub growing_or : Option (List Engines) → Outcome → Outcome
growing_or (Some engines) outcome = Grows engines
growing_or None outcome = outcome
