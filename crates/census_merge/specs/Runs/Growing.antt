-- Patterns that grow, and the rows that say so.
use Rattle.std.specs.Prelude.{◌≡◌, ◌≤◌, ℕ, ◌*◌, false, List, ◌∷◌, Option, Ok}
use Rattle.census_bundle.specs.declared.bundle.Entry.{Entry}
use Rattle.census_format.specs.Lines.{pattern_row, rows_of_engines}
use Rattle.census_rows.specs.declared.row.Row.{Row}
use Rattle.life_answer.specs.Answers.{finding_with}
use Rattle.life_answer.specs.Limited.{StaysWithin}
use Rattle.life_answer.specs.declared.finding.Answer.TheVariants.{Found}
use Rattle.life_answer.specs.declared.finding.Outcome.TheVariants.{Grows}
use Rattle.life_answer.specs.declared.tale.Engines.{Engines}
use Rattle.life_growth.specs.Growth.{IsGrowth}
use Rattle.life_model.specs.Evolution.{generation}
use Rattle.life_model.specs.Generation.{Generation}
use Rattle.life_model.specs.Rule.{Rule}
use Rattle.life_text.specs.Picture.{picture_of}
use Rattle.life_text.specs.Rle.{reading}

-- The pattern isn't lost. It is a set of cells under a rule, and some generation of it is these engines and this debris, and
-- grows so within the horizon. This is seen by some generation up to the bound, and no generation up to four times that one is
-- too large.
pub record HasGrown (bound : ℕ) (most : Option ℕ) (horizon : ℕ) (e : Entry) : Type 0 where
  pub rule : Rule
  pub cells : Generation
  pub kept : e.is_lost ≡ false
  pub reads : picture_of (reading e.text) ≡ Ok (record { rule = rule; cells = cells })
  pub age : ℕ
  pub within : ℕ
  pub engines : List Generation
  pub debris : Generation
  pub growth : IsGrowth rule within (generation rule cells age) engines debris
  pub seen : ℕ
  pub grown : age ≤ seen
  pub passed : within ≤ seen
  pub soon : within ≤ horizon
  pub early : seen ≤ bound
  pub small : StaysWithin most rule cells (4 * seen)

-- the `line` row of a pattern that is said to grow, and the `engine` and `emits` rows of its engines
abbrev pub growing_rows : ℕ → ℕ → Rule → Generation → List ℕ → List Engines → List Row
growing_rows c i rule cells name engines =
    pattern_row c i (Found rule (finding_with cells (Grows engines))) name ∷ rows_of_engines c i 1 engines
