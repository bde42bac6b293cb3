-- The onset that is found for what has fallen apart is that of its ash.
use Rattle.std.proofs.Common.{◌≡◌, ℕ, ◌<◌, ◌≤◌, inl, inr, Bool, true, false, Option, Some, None, is_some, unwrap_or, List, refl, sym, ap, subst, ◌∙◌, true≢false, arith}
use Rattle.std.proofs.lemmas.Bool.{cases_lt}
use Rattle.life_model.specs.Rule.{Rule}
use Rattle.life_model.specs.Generation.{Generation}
use Rattle.life_model.specs.Evolution.{generation}
use Rattle.life_objects.specs.Ash.{HasFallenApart}
use Rattle.life_objects.specs.Onset.{HasAsh, IsAshOnset}
use Rattle.life_objects.proofs.Beginning.{one_onset}
use Rattle.life_objects.specs.Decided.Decided.{ash_of}
use Rattle.life_objects.proofs.DecidedLemmas.Deciding.{ash_if_found, found_if_ash}
use Rattle.life_answer.specs.Census.{ash_onset, census_found, census_of, is_ash_then}
use Rattle.life_answer.specs.Recurrence.{first_from}
use Rattle.life_answer.specs.declared.part.Part.{Part}
use Rattle.life_answer.specs.declared.finding.Outcome.TheVariants.{Ash}
use Rattle.life_answer.proofs.Findings.{first_from-found, first_from-none}

some_in : {A : Type 0} (o : Option A) → is_some o ≡ true → (x : A) × (o ≡ Some x)
some_in None e = absurd (true≢false (sym e))
some_in (Some x) e = (x, refl)

module _ (R : Rule) (G : Generation) (b : ℕ) where
  -- the test says whether a generation is ash
  ash_by_test : (n : ℕ) → is_ash_then R G b n ≡ true → HasAsh R b (generation R G n)
  ash_by_test n e =
      let found = some_in (ash_of R b (generation R G n)) e in
      (found.0, ash_if_found R b (generation R G n) found.0 found.1)

  test_by_ash : (n : ℕ) → HasAsh R b (generation R G n) → is_ash_then R G b n ≡ true
  test_by_ash n has = ap is_some (found_if_ash R b (generation R G n) has.0 has.1)

  not_before : (n first : ℕ) → HasAsh R b (generation R G n) → (n < first → is_ash_then R G b n ≡ false) → first ≤ n
  not_before n first has fails =
      elim (cases_lt n first) [
        | inl early ↦ absurd (true≢false (sym (test_by_ash n has) ∙ fails early))
        | inr late ↦ late
      ]

  onset_by : (o : Option ℕ) → first_from (is_ash_then R G b) 0 b ≡ o → HasAsh R b (generation R G b) →
      IsAshOnset R b G (unwrap_or o b)
  onset_by None none has = record {
    ash = has;
    first = λ n before. not_before n b before (λ early. first_from-none (is_ash_then R G b) b 0 n none (omega arith) (omega arith));
  }
  onset_by (Some t) found has =
      let first = first_from-found (is_ash_then R G b) b 0 t found in
      record {
        ash = ash_by_test t first.passes;
        first = λ n before. not_before n t before (first.before n (omega arith));
      }

  within_by : (o : Option ℕ) → first_from (is_ash_then R G b) 0 b ≡ o → unwrap_or o b ≤ b
  within_by None none = omega arith
  within_by (Some t) found =
      let first = first_from-found (is_ash_then R G b) b 0 t found in
      let below = first.below in
      omega arith

  pub ash_onset-within : ash_onset R G b ≤ b
  unfolding ash_onset
  ash_onset-within = within_by (first_from (is_ash_then R G b) 0 b) refl

  pub onset_found : HasAsh R b (generation R G b) → IsAshOnset R b G (ash_onset R G b)
  unfolding ash_onset
  onset_found has = onset_by (first_from (is_ash_then R G b) 0 b) refl has

  pub onset_only : (onset : ℕ) (parts : List Generation) → HasFallenApart R b G parts → IsAshOnset R b G onset →
      ash_onset R G b ≡ onset
  onset_only onset parts fallen first =
      one_onset R b b (ash_onset R G b) onset G (onset_found (parts, fallen)) first

  onset_in : (near : Bool) (onset : ℕ) (parts : List Part) (o : Option (List Generation)) → ash_of R b (generation R G b) ≡ o →
      census_found near R b (ash_onset R G b) o ≡ Ash onset parts → IsAshOnset R b G onset
  onset_in near onset parts None none e = absurd cc
  onset_in near onset parts (Some found) some e =
      let same : ash_onset R G b ≡ onset = cc in
      subst (IsAshOnset R b G) same (onset_found (found, ash_if_found R b (generation R G b) found some))

  pub onset_of_census : (near : Bool) (onset : ℕ) (parts : List Part) → census_of near R G b ≡ Ash onset parts → IsAshOnset R b G onset
  unfolding census_of
  onset_of_census near onset parts e = onset_in near onset parts (ash_of R b (generation R G b)) refl e
