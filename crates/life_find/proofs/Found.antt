-- From what the search says of a set to what becomes of it.
use Rattle.std.proofs.Common.{◌≡◌, ℕ, List, sym, ap, ◌∙◌}
use Rattle.life_model.specs.Rule.{Rule}
use Rattle.life_model.specs.Generation.{Generation}
use Rattle.life_model.specs.Evolution.{generation}
use Rattle.life_model.specs.Recurrence.{SettlesAt, Recurrence, Settles}
use Rattle.life_answer.specs.declared.finding.Outcome.TheVariants.{Recurs, Unresolved}
use Rattle.life_answer.specs.Apgcode.{code_of}
use Rattle.life_answer.specs.Answers.{outcome_of}
use Rattle.life_answer.proofs.Findings.{outcome-settled, outcome-nowhere}

module _ (R : Rule) (G S : Generation) (same : S ≡ G) (b : ℕ) where
  pub unresolved-found : ((g : ℕ) → SettlesAt R S b g → ⊥) → Unresolved ≡ outcome_of R G b
  unresolved-found none = sym (outcome-nowhere R S b none) ∙ ap (λ X. outcome_of R X b) same

  pub recurs-found : (r : Recurrence) (H : Generation) (code : List ℕ) → Settles R S b r → H ≡ generation R S r.onset → code ≡ code_of R H r.period r.displacement
      → Recurs r.onset r.period r.displacement.0 r.displacement.1 code ≡ outcome_of R G b
  recurs-found r H code s at coded =
      ap (Recurs r.onset r.period r.displacement.0 r.displacement.1) (coded ∙ ap (λ X. code_of R X r.period r.displacement) at)
      ∙ sym (outcome-settled R S b r s)
      ∙ ap (λ X. outcome_of R X b) same
