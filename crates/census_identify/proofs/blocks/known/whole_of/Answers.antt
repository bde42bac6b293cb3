use Rattle.std.proofs.Common.{Some, ap, sym, subst, ◌∙◌, arith}
use Rattle.life_model.specs.Evolution.{generation}
use Rattle.census_identify.specs.Blocks.Known.{recurring_within, whole_of}
use Rattle.census_identify.specs.Blocks.Periods.{common_period}
use Rattle.census_identify.specs.Blocks.Whole.{IsWholeWithin}
use Rattle.census_identify.proofs.BlocksLemmas.Wholes.{onset_found, onset_within, whole_found}
use Rattle.census_identify.proofs.blocks.known.whole_of.Goals as goal

pub whole_within-requires-clause-young : goal.whole_within-requires-clause-young
whole_within-requires-clause-young c =
    let ask = c.args.inquiry in
    let pattern = c.args.pattern.now in
    let early = onset_within ask.near pattern.rule pattern.cells ask.bound c.in-Ash.onset (Some ask.cells) ask.horizon c.in-Ash.parts
    (sym c.requires.outcome ∙ c.in-Ash.is) in
    let some = c.in-Some.ensures.within in
    omega arith

pub returns : goal.returns
returns c =
    let ask = c.args.inquiry in
    let pattern = c.args.pattern.now in
    let onset = c.in-Ash.onset in
    let most = c.in-Some.most in
    let whole = c.in_ok-whole.whole in
    let first = onset_found ask.near pattern.rule pattern.cells ask.bound onset (Some ask.cells) ask.horizon c.in-Ash.parts
    (sym c.requires.outcome ∙ c.in-Ash.is) in
    let comes = subst (λ G. IsWholeWithin pattern.rule (generation pattern.rule G onset) most whole) c.cells.ensures.cells
    (subst (λ R. IsWholeWithin R (generation R c.cells.result.now onset) most whole) c.rule.ensures c.in_ok-whole.ensures) in
    whole_found pattern.rule pattern.cells ask.bound onset most first whole comes
    ∙ ap (recurring_within pattern onset) (c.in-Some.ensures.value ∙ ap (common_period ask.bound) c.as_slice.ensures.parts)
    ∙ sym (ap (whole_of ask.bound pattern) c.in-Ash.is)
