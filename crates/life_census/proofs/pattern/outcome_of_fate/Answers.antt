use Rattle.std.proofs.Common.{ℕ, ◌*◌, None, Option, min, ◌∙◌, sym, ap, subst}
use Rattle.std.specs.Bool.{OnTrue}
use Rattle.std.proofs.lemmas.Result.{IfOk-weaker}
use Rattle.life_answer.specs.Answers.{outcome_of}
use Rattle.life_answer.specs.Census.{fallen_of, unless_one}
use Rattle.life_answer.specs.Growing.{allowed_bound, growing_or}
use Rattle.life_answer.specs.Limited.{unless_large}
use Rattle.life_answer.specs.declared.finding.Outcome.{Outcome}
use Rattle.life_answer.proofs.Growing.{ash_answered, outcome_by}
use Rattle.life_answer.proofs.Ashes.{census_none}
use Rattle.life_apart.specs.Sets.{sets_of}
use Rattle.life_ash.specs.Fates.{EndsLater, IsFate}
use Rattle.life_census.proofs.Early.{nothing_told}
use Rattle.life_census.proofs.LaterParts.{census_is_ash}
use Rattle.life_census.proofs.pattern.outcome_of_fate.Goals as goal

pub returns-in-Ash : goal.returns-in-Ash
returns-in-Ash g c =
    let R = c.args.rule.now in
    let G = c.args.cells.now in
    let b = c.args.bound in
    let near = c.args.near in
    let limit = c.args.limit in
    let unless : Option ℕ → Outcome = λ o. unless_large (fallen_of near R G b) o in
    let fate = subst (IsFate R G b limit) c.in-Ash.is c.requires.fate in
    let ash = census_is_ash near R b G c.in-Ash.age (sets_of c.in-Ash.ash) fate.1 fate.2 in
    IfOk-weaker c.outcome_of_ash.result _ _
    (λ outcome told.
    told b fate.1 fate.2 ∙ ap unless (sym fate.0) ∙ sym (ash_answered near R G limit b ash.0 c.args.horizon ash.1 ash.2))
    c.outcome_of_ash.ensures

pub returns-in-Unresolved-true : goal.returns-in-Unresolved-true
returns-in-Unresolved-true g c =
    let R = c.args.rule.now in
    let G = c.args.cells.now in
    let b = c.args.bound in
    let near = c.args.near in
    let limit = c.args.limit in
    let allowed = allowed_bound limit R G b in
    let unless : Option ℕ → Outcome = λ o. unless_large (fallen_of near R G b) o in
    let fate = subst (IsFate R G b limit) c.in-Unresolved-true.is c.requires.fate in
    let ends : EndsLater R G = subst (λ e. OnTrue e (EndsLater R G)) c.in-Unresolved-true.ends-test fate.2 in
    sym (ap (unless_one (outcome_of R G (2 * b))) (census_none near R b G fate.1)) ∙ ap unless (sym fate.0)
    ∙ sym (outcome_by near limit R G b c.args.horizon None (nothing_told near R G (min c.args.horizon allowed) allowed ends))

pub returns-in_ok-engines-in-Unresolved-false : goal.returns-in_ok-engines-in-Unresolved-false
returns-in_ok-engines-in-Unresolved-false g c =
    let R = c.args.rule.now in
    let G = c.args.cells.now in
    let b = c.args.bound in
    let near = c.args.near in
    let limit = c.args.limit in
    let unless : Option ℕ → Outcome = λ o. unless_large (fallen_of near R G b) o in
    let fate = subst (IsFate R G b limit) c.in-Unresolved-false.is c.requires.fate in
    let otherwise = sym (ap (unless_one (outcome_of R G (2 * b))) (census_none near R b G fate.1)) ∙ ap unless (sym fate.0) in
    let found = c.in_ok-growth-in-Unresolved-false.ensures in
    let engines = c.in_ok-engines-in-Unresolved-false.ensures R G (allowed_bound limit R G b) c.args.horizon found.some found.none in
    c.growing_or.ensures ∙ (λ i. growing_or (engines i) (otherwise i))
