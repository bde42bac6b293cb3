use Rattle.std.proofs.Common.{None, cond, sym, ap, ◌∙◌, arith}
use Rattle.life_answer.proofs.Findings.{first_from-first, first_from-nowhere}
use Rattle.life_answer.specs.Recurrence.{first_from}
use Rattle.census_identify.specs.Blocks.Periods.{are_back}
use Rattle.census_identify.proofs.blocks.periods.common_period.Goals as goal

pub returns-then-are_back-clause-value : goal.returns-then-are_back-clause-value
returns-then-are_back-clause-value c =
    let test = are_back c.args.parts.now in
    sym (ap (λ alike. cond alike (first_from test 1 c.args.bound) None) (sym c.are_alike.ensures ∙ c.if-not-are_alike.false)
    ∙ first_from-first test c.args.bound 1 c.loop-generations.generations (omega arith) (omega arith) (sym c.are_back.ensures ∙ c.if-are_back.true) c.loop-generations.invariant)

pub returns-clause-value : goal.returns-clause-value
returns-clause-value c =
    let test = are_back c.args.parts.now in
    sym (ap (λ alike. cond alike (first_from test 1 c.args.bound) None) (sym c.are_alike.ensures ∙ c.if-not-are_alike.false)
    ∙ first_from-nowhere test c.args.bound 1 (λ n some within. c.loop-generations.invariant n some (omega arith)))
