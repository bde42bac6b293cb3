-- Patterns that are said to recur where objects are asked for, and what `run` may be asked of them.
use Rattle.std.specs.Prelude.{◌≡◌, ℕ, Option, Some, Ok, codes}
use Rattle.census_bundle.specs.declared.bundle.Entry.{Entry}
use Rattle.census_format.specs.Found.{outcome_of}
use Rattle.census_rows.specs.Kinds.{said, value_at}
use Rattle.census_rows.specs.declared.kinds.Label.TheVariants.{Onset, Period}
use Rattle.census_rows.specs.declared.kinds.Value.TheVariants.{Number}
use Rattle.life_answer.specs.Limited.{StaysWithin}
use Rattle.life_answer.specs.declared.finding.Answer.{Answer}
use Rattle.life_text.specs.Picture.{Picture, picture_of}
use Rattle.life_text.specs.Rle.{reading}

-- its line is `ok`, with this onset and this period
pub record SaysOk (onset period : ℕ) (found : Answer) : Type 0 where
  pub is_ok : (said (outcome_of found)).word ≡ codes "ok"
  pub has_onset : value_at Onset (said (outcome_of found)).fields ≡ Some (Number onset)
  pub has_period : value_at Period (said (outcome_of found)).fields ≡ Some (Number period)

-- no generation of the pattern up to the last has more cells than it may have
abbrev pub IsNeverLarge : Option ℕ → ℕ → Entry → Type 0
IsNeverLarge limit last e =
    (pattern : Picture) → picture_of (reading e.text) ≡ Ok pattern → StaysWithin limit pattern.rule pattern.cells last
