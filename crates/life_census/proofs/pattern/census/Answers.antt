use Rattle.std.proofs.Common.{◌≡◌, Some, ◌∙◌, sym, subst}
use Rattle.life_answer.specs.Growing.{allowed_bound}
use Rattle.life_answer.specs.Questions.{outcome_to}
use Rattle.life_answer.specs.declared.question.Question.TheVariants.{Objects}
use Rattle.life_answer.proofs.Growing.{outcome_by}
use Rattle.life_census.specs.OnTheWay.{IsSeen}
use Rattle.life_census.proofs.Early.{told_grown}
use Rattle.life_census.proofs.Refused.{told_unresolved}
use Rattle.life_census.proofs.pattern.census.Goals as goal
use Rattle.life_census.proofs.pattern.census.Goals.{in-Becomes+in_ok-outcome-in-Becomes, in-Grows+in_ok-told-in-Grows, in-Unresolved}

pub returns : goal.returns
returns g c =
    let R = c.args.rule.now in
    let G = c.args.cells.now in
    let b = c.args.bound in
    let near = c.args.near in
    let limit = c.args.limit in
    let horizon = c.args.horizon in
    let becomes : c.match-branch-2.outcome ≡ outcome_to (Objects b limit near horizon) R G =
    elim c.match-branch-2.branch [
      | in-Grows+in_ok-told-in-Grows w ↦
          let grown = subst (IsSeen R G b limit horizon) w.in-Grows.is c.in_ok-growth.ensures in
          let lines = w.in_ok-told-in-Grows.field-0 in
          w.outcome-is
          ∙ sym (outcome_by near limit R G b horizon (Some lines)
          (told_grown near R G (allowed_bound limit R G b) horizon w.in-Grows.growth lines grown w.in_ok-told-in-Grows.ensures))
      | in-Becomes+in_ok-outcome-in-Becomes w ↦ w.outcome-is ∙ w.in_ok-outcome-in-Becomes.ensures
      | in-Unresolved w ↦
          let seen = subst (IsSeen R G b limit horizon) w.in-Unresolved.is c.in_ok-growth.ensures in
          w.outcome-is ∙ told_unresolved near R G limit b horizon seen.0 seen.1 seen.2
    ] in
    λ i. record { population = c.len-population.ensures i; outcome = becomes i }
