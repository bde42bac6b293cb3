-- What has become several parts that come again as a whole recurs as that whole does.
use Rattle.std.proofs.Common.{◌≡◌, ℕ, ◌+◌, ◌<◌, ◌≤◌, Bool, Option, Some, None, List, inl, inr, ap, sym, subst, ◌∙◌, arith}
use Rattle.life_model.specs.Cell.{Cell}
use Rattle.life_model.specs.Evolution.{generation}
use Rattle.life_model.specs.Generation.{Generation}
use Rattle.life_model.specs.Recurrence.{RecursBy, Recurrence, Settles, SettlesAt}
use Rattle.life_model.specs.Rule.{Rule}
use Rattle.life_model.proofs.Recurrences.{generation-add, onset-period-le}
use Rattle.life_objects.specs.Onset.{IsAshOnset}
use Rattle.life_objects.proofs.Settling.{both_onsets}
use Rattle.life_answer.specs.Answers.{outcome_of}
use Rattle.life_answer.specs.Questions.{outcome_to}
use Rattle.life_answer.specs.declared.finding.Outcome.TheVariants.{Ash}
use Rattle.life_answer.specs.declared.part.Part.{Part}
use Rattle.life_answer.specs.declared.question.Question.TheVariants.{Objects}
use Rattle.life_answer.proofs.Ashes.{ash_is_so}
use Rattle.life_answer.proofs.Findings.{outcome-settled, settled_or_not}
use Rattle.life_answer.proofs.OneParts.{reported_ash}
use Rattle.life_answer.proofs.Onsets.{onset_of_census}
use Rattle.census_identify.specs.Blocks.Whole.{ComesAgain, IsWholeWithin, whole_in}
use Rattle.census_identify.specs.declared.blocks.whole.Whole.{Whole}

module _ (R : Rule) (G : Generation) (b onset m : ℕ) (first : IsAshOnset R b G onset) where
  abbrev H : Generation
  H = generation R G onset

  abbrev c : ℕ
  c = onset + m

  onset_is : (r : Recurrence) → Settles R G c r → r.onset ≡ onset
  onset_is r s = both_onsets R G b onset first c r s

  module _ (whole : Whole) (comes : ComesAgain R H m whole) where
    there : SettlesAt R G c onset
    there =
        let within : whole.period ≤ m = comes.within in
        record {
          steps = whole.period;
          by = whole.displacement;
          later = comes.recurs.later;
          within = omega arith;
          again = sym (generation-add R G onset whole.period) ∙ comes.recurs.again;
        }

    abbrev as_whole : Recurrence
    as_whole = record { onset = onset; period = whole.period; displacement = whole.displacement }

    settles_so : (r : Recurrence) → Settles R G c r → Settles R G c as_whole
    settles_so r s = record {
      settles = there;
      first = λ g at. subst (λ t. t ≤ g) (onset_is r s) (s.first g at);
      recurs = comes.recurs;
      least = comes.least;
      unmoved = comes.unmoved;
    }

    found_whole : Some whole ≡ whole_in (outcome_of R G c)
    found_whole = elim (settled_or_not R G c) [
      | inl found ↦ sym (ap whole_in (outcome-settled R G c as_whole (settles_so found.recurrence found.settles)))
      | inr none ↦ absurd (none.nowhere onset there)
    ]

  found_none : ((n : ℕ) (d : Cell) → RecursBy R H n d → m < n) → None ≡ whole_in (outcome_of R G c)
  found_none away = elim (settled_or_not R G c) [
    | inl found ↦
        let r = found.recurrence in
        let at : r.onset ≡ onset = onset_is r found.settles in
        let late : m < r.period = away r.period r.displacement
        (subst (λ t. RecursBy R (generation R G t) r.period r.displacement) at found.settles.recurs) in
        let within : r.onset + r.period ≤ onset + m = onset-period-le R G c r found.settles in
        absurd (omega arith)
    | inr none ↦ sym (ap whole_in none.found)
  ]

  pub whole_found : (whole : Option Whole) → IsWholeWithin R H m whole → whole ≡ whole_in (outcome_of R G c)
  whole_found (Some whole) comes = found_whole whole comes
  whole_found None away = found_none away

-- the onset of the ash that is found
module _ (near : Bool) (R : Rule) (G : Generation) (b onset : ℕ) (limit : Option ℕ) (horizon : ℕ) (parts : List Part)
    (found : outcome_to (Objects b limit near horizon) R G ≡ Ash onset parts) where
  pub onset_found : IsAshOnset R b G onset
  onset_found = onset_of_census R G b near onset parts (reported_ash near R G b limit horizon onset parts found).0

  pub onset_within : onset ≤ b
  onset_within =
      let ash = ash_is_so near R b G onset parts (reported_ash near R G b limit horizon onset parts found).0 in
      onset_found.first b (ash.0, ash.1)
