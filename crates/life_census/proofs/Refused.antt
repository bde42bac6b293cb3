-- What neither falls apart within the bound nor grows within the horizon is reported as unresolved.
use Rattle.std.proofs.Common.{◌≡◌, ℕ, ◌*◌, min, Bool, List, None, Option, sym, ap, ◌∙◌}
use Rattle.life_model.specs.Evolution.{generation}
use Rattle.life_model.specs.Generation.{Generation}
use Rattle.life_model.specs.Rule.{Rule}
use Rattle.life_objects.specs.Ash.{HasFallenApart}
use Rattle.life_answer.specs.Answers.{outcome_of}
use Rattle.life_answer.specs.Census.{fallen_of, unless_one}
use Rattle.life_answer.specs.Growing.{allowed_bound}
use Rattle.life_answer.specs.Limited.{unless_large}
use Rattle.life_answer.specs.Questions.{outcome_to}
use Rattle.life_answer.specs.declared.finding.Outcome.{Outcome}
use Rattle.life_answer.specs.declared.finding.Outcome.TheVariants.{Unresolved}
use Rattle.life_answer.specs.declared.question.Question.TheVariants.{Objects}
use Rattle.life_answer.proofs.Growing.{allowed_within, outcome_by}
use Rattle.life_answer.proofs.Told.{told_nothing}
use Rattle.life_answer.proofs.Ashes.{census_none}
use Rattle.life_ash.specs.Fates.{IsSmallEnough}
use Rattle.life_census.specs.Grown.{NeverGrowsThen}
use Rattle.life_census.proofs.Early.{never_sooner}

pub told_unresolved : (near : Bool) (R : Rule) (G : Generation) (limit : Option ℕ) (b horizon : ℕ) →
    IsSmallEnough R G b limit → ((parts : List Generation) → HasFallenApart R b G parts → ⊥) →
    NeverGrowsThen R G b horizon → Unresolved ≡ outcome_to (Objects b limit near horizon) R G
told_unresolved near R G limit b horizon small none never =
    let allowed = allowed_bound limit R G b in
    let unless : Option ℕ → Outcome = λ o. unless_large (fallen_of near R G b) o in
    let sooner = never_sooner R G allowed b horizon (allowed_within limit R G b) never in
    sym (ap (unless_one (outcome_of R G (2 * b))) (census_none near R b G none)) ∙ ap unless (sym small)
    ∙ sym (outcome_by near limit R G b horizon None
    (told_nothing near R (min horizon allowed) (generation R G allowed) (λ S Es growth. sooner Es S growth)))
