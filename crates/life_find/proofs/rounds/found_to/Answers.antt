use Rattle.std.proofs.Common.{sym, ◌∙◌}
use Rattle.life_answer.specs.Answers.{outcome_of}
use Rattle.life_find.proofs.Beyond.{large_beyond, stays, found_beyond}
use Rattle.life_find.proofs.rounds.found_to.Goals as goal

pub returns-in-Some-clause-found : goal.returns-in-Some-clause-found
returns-in-Some-clause-found g c bound within =
    let R = c.args.rule.now in
    let G = c.args.cells.now in
    let large = rw c.in-Some.is at c.in_ok-large.ensures.large in
    large_beyond R G c.args.limit c.args.reach bound c.in-Some.large (outcome_of R G bound) within large

pub returns-in-Unresolved-clause-open : goal.returns-in-Unresolved-clause-open
returns-in-Unresolved-clause-open g c =
    let R = c.args.rule.now in
    let G = c.args.cells.now in
    let small = rw c.in_default.is at c.in_ok-large.ensures.small in
    small (outcome_of R G c.args.reach) ∙ sym c.in_ok-found.ensures ∙ c.in-Unresolved.is

pub returns-in_default-2 : goal.returns-in_default-2
returns-in_default-2 g c =
    let R = c.args.rule.now in
    let G = c.args.cells.now in
    let small = rw c.in_default.is at c.in_ok-large.ensures.small in
    record {
      found = λ bound within.
          found_beyond R G c.args.limit c.args.reach bound (stays R G c.args.limit c.args.reach small)
          (λ none. c.in_default-2.not-Unresolved (c.in_ok-found.ensures ∙ none)) within
          ∙ sym c.in_ok-found.ensures;
      «open» = tt;
    }
