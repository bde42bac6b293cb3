use Rattle.std.proofs.Common.{◌≡◌, Some, refl, ap, ◌∙◌}
use Rattle.census_format.specs.Found.{outcome_of}
use Rattle.census_rows.specs.Kinds.{said, value_at}
use Rattle.census_rows.specs.declared.kinds.Label.TheVariants.{Onset}
use Rattle.census_rows.specs.declared.kinds.Value.TheVariants.{Number}
use Rattle.life_answer.specs.Answers.{finding_with}
use Rattle.life_answer.specs.Census.{ash_onset, counted_parts}
use Rattle.life_answer.specs.declared.finding.Answer.TheVariants.{Found}
use Rattle.life_answer.proofs.Onsets.{onset_found}
use Rattle.census_merge.proofs.RunsLemmas.Fallen.{fallen_either, to_say}
use Rattle.census_merge.proofs.runs.ash_lines_tell_the_onset.Goals as goal

pub returns : goal.returns
returns c = λ near bound most horizon e f.
    let s = to_say near bound most horizon e f in
    let onset = ash_onset f.rule f.cells bound in (
      onset,
      onset_found f.rule f.cells bound (f.parts, f.ash),
      ap (λ answer. value_at Onset (said (outcome_of answer)).fields) s.is
          ∙ fallen_either near f.rule f.cells bound onset (counted_parts near f.rule bound s.found) s.census
          (λ o. value_at Onset (said (outcome_of (Found f.rule (finding_with f.cells o)))).fields ≡ Some (Number onset)) refl
          (λ period dx dy code one. refl),
    )
