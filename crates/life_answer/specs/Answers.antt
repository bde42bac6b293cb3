-- The finding for a pattern that settles.
use Rattle.std.specs.Prelude.{ℕ, ◌+◌, Option, Some, None}
use Rattle.life_model.specs.Rule.{Rule}
use Rattle.life_model.specs.Generation.{Generation, size}
use Rattle.life_model.specs.Evolution.{generation}
use Rattle.life_model.specs.Recurrence.{Recurrence}
use Rattle.life_answer.specs.declared.finding.Finding.{Finding}
use Rattle.life_answer.specs.declared.finding.Outcome.{Outcome}
use Rattle.life_answer.specs.declared.finding.Outcome.TheVariants.{Recurs, Unresolved}
use Rattle.life_answer.specs.Apgcode.{code_of}
use Rattle.life_answer.specs.Recurrence.{first_onset, first_return, corners_apart}

-- The outcome of a set that settles: the code is that of its generation at the onset.
abbrev pub recurrence_outcome : Rule → Generation → Recurrence → Outcome
recurrence_outcome R G r =
    Recurs r.onset r.period r.displacement.0 r.displacement.1 (code_of R (generation R G r.onset) r.period r.displacement)

abbrev pub outcome_at : Rule → Generation → ℕ → Option ℕ → Outcome
outcome_at R G onset None = Unresolved
outcome_at R G onset (Some period) =
    recurrence_outcome R G (record {
      onset = onset;
      period = period;
      displacement = corners_apart (generation R G onset) (generation R G (onset + period));
    })

abbrev pub outcome_from : Rule → Generation → ℕ → Option ℕ → Outcome
outcome_from R G b None = Unresolved
outcome_from R G b (Some onset) = outcome_at R G onset (first_return R G b onset)

-- the outcome of a set within the bound
unfoldable pub outcome_of : Rule → Generation → ℕ → Outcome
outcome_of R G b = outcome_from R G b (first_onset R G b)

-- the finding for a set with this outcome
abbrev pub finding_with : Generation → Outcome → Finding
finding_with G outcome = record { population = size G; outcome = outcome }

-- the finding for a set within the bound
abbrev pub finding_of : Rule → Generation → ℕ → Finding
finding_of R G b = finding_with G (outcome_of R G b)
