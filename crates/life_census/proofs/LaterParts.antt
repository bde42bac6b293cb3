-- What becomes of a pattern of which an earlier generation than the last is ash.
use Rattle.std.proofs.Common.{◌≡◌, ℕ, ◌-◌, ◌≤◌, Bool, List, sym, ap, ◌∙◌}
use Rattle.std.specs.List.{All}
use Rattle.life_model.specs.Rule.{Rule}
use Rattle.life_model.specs.Generation.{Generation}
use Rattle.life_model.specs.Evolution.{generation}
use Rattle.life_objects.specs.Ash.{HasFallenApart, IsAsh}
use Rattle.life_objects.specs.Onset.{IsAshOnset}
use Rattle.life_objects.specs.Union.{generations}
use Rattle.life_objects.proofs.Ashes.{IsAsh-until}
use Rattle.life_objects.proofs.DecidedLemmas.Lasting.{parts_found}
use Rattle.life_answer.specs.Census.{ash_onset, census_found, census_of, counted_parts}
use Rattle.life_answer.specs.declared.finding.Outcome.TheVariants.{Ash}
use Rattle.life_answer.specs.declared.part.Part.{Part}
use Rattle.life_answer.proofs.CountedSets.{counted_in_any_order}
use Rattle.life_answer.proofs.Onsets.{onset_only}
use Rattle.life_orbit.specs.Course.{Course}
use Rattle.life_apart.specs.Sets.{IsCourseBy, sets_of}
use Rattle.life_census.specs.Counted.{AreCounted}

module _ (near : Bool) (R : Rule) (b : ℕ) (G : Generation) where
  -- generation b, where an earlier one is ash
  census_later : (n onset : ℕ) (os : List Course) (parts : List Part) → All (IsCourseBy R) os → AreCounted near os parts →
      HasFallenApart R b G (generations R (sets_of os) n) → IsAshOnset R b G onset → census_of near R G b ≡ Ash onset parts
  unfolding census_of
  census_later n onset os parts of counted fallen first =
      let sets = generations R (sets_of os) n in
      let found = parts_found R b (generation R G b) sets fallen in
      ap (census_found near R b (ash_onset R G b)) found.1
      ∙ ap (λ ps. Ash (ash_onset R G b) ps)
      (sym (counted_in_any_order near R b sets found.0 found.2) ∙ sym (counted R b n of fallen.objects))
      ∙ ap (λ t. Ash t parts) (onset_only R G b onset sets fallen first)

  pub census_some : (age onset : ℕ) (os : List Course) (parts : List Part) → age ≤ b → All (IsCourseBy R) os →
      AreCounted near os parts → IsAsh R b (generation R G age) (sets_of os) → IsAshOnset R b G onset →
      census_of near R G b ≡ Ash onset parts
  census_some age onset os parts by_then of counted ash first =
      census_later (b - age) onset os parts of counted (IsAsh-until R b age b G (sets_of os) by_then ash) first

  -- where an earlier generation is ash
  pub census_is_ash : (age : ℕ) (sets : List Generation) → age ≤ b → IsAsh R b (generation R G age) sets →
      (onset : ℕ) × (parts : List Part) × (census_of near R G b ≡ Ash onset parts)
  unfolding census_of
  census_is_ash age sets by_then ash =
      let found = parts_found R b (generation R G b) (generations R sets (b - age)) (IsAsh-until R b age b G sets by_then ash) in
      (ash_onset R G b, counted_parts near R b found.0, ap (census_found near R b (ash_onset R G b)) found.1)
