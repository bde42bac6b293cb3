-- The facts known about a pattern within the bound.
use Rattle.std.specs.Prelude.{ℕ, ◌+◌, Option, Some, None}
use Rattle.life_text.specs.Picture.{Picture}
use Rattle.life_answer.specs.Questions.{outcome_to}
use Rattle.life_answer.specs.declared.finding.Outcome.{Outcome}
use Rattle.life_answer.specs.declared.finding.Outcome.TheVariants.{Ash}
use Rattle.life_answer.specs.declared.question.Question.TheVariants.{Objects, Settles}
use Rattle.census_identify.specs.Blocks.Periods.{common_period}
use Rattle.census_identify.specs.Blocks.Whole.{whole_in}
use Rattle.census_identify.specs.declared.blocks.inquiry.Inquiry.{Inquiry}
use Rattle.census_identify.specs.declared.blocks.known.Known.{Known}
use Rattle.census_identify.specs.declared.blocks.whole.Whole.{Whole}

-- the period and the displacement of a pattern as a whole, where it recurs within `most` generations from its onset on
abbrev pub recurring_within : Picture → ℕ → Option ℕ → Option Whole
recurring_within pattern onset None = None
recurring_within pattern onset (Some most) = whole_in (outcome_to (Settles (onset + most) None) pattern.rule pattern.cells)

-- the period and the displacement, as a whole, of a pattern that has become parts, where all of these recur together, by their
-- codes, within the bound, and all of them move or none does
abbrev pub whole_of : ℕ → Picture → Outcome → Option Whole
whole_of bound pattern (Ash onset parts) = recurring_within pattern onset (common_period bound parts)
whole_of bound pattern _ = None

-- the outcome of a pattern where its objects are looked for, and its period and displacement as a whole
abbrev pub known_of : Inquiry → Picture → Known
known_of inquiry pattern =
    let outcome = outcome_to (Objects inquiry.bound (Some inquiry.cells) inquiry.near inquiry.horizon) pattern.rule pattern.cells in
    record { outcome = outcome; whole = whole_of inquiry.bound pattern outcome }
