-- Outcomes that the first generations of a pattern leave open.
use Rattle.std.specs.Prelude.{ℕ, Bool, true, false}
use Rattle.life_answer.specs.declared.finding.Answer.{Answer}
use Rattle.life_answer.specs.declared.finding.Answer.TheVariants.{Found, Refused}
use Rattle.life_answer.specs.declared.finding.Outcome.{Outcome}
use Rattle.life_answer.specs.declared.finding.Outcome.TheVariants.{Unresolved}

-- the greatest bound that is searched for an early answer
abbrev pub soon_reach : ℕ
soon_reach = 128

-- true where more generations may decide what these did not
abbrev pub leaves_open : Outcome → Bool
leaves_open Unresolved = true
leaves_open _ = false

-- true where nothing was found within a bound, so that more may be within a greater one
abbrev pub is_open : Answer → Bool
is_open (Found rule finding) = leaves_open finding.outcome
is_open (Refused number) = false
