use Rattle.std.proofs.Common.{◌∙◌, ◌++◌, codes, ap, arith}
use Rattle.std.proofs.lemmas.Result.{IfOk-weaker}
use Rattle.life_model.specs.Generation.{size}
use Rattle.life_model.proofs.Recurrences.{generation-zero}
use Rattle.life_answer.specs.Apgcode.{prefix}
use Rattle.life_codes.proofs.Phases.{code-parts}
use Rattle.life_census.proofs.code.code_of.Goals as goal

pub phase-requires : goal.phase-requires
phase-requires c = let one = c.period-period.ensures.recurs.recurs.later in omega arith

pub returns : goal.returns
returns c =
    let R = c.args.orbit.now.rule in
    let H = c.args.orbit.now.set in
    IfOk-weaker c.of.result _ _ (λ code kept.
    code-parts R H c.args.orbit.now.period _ c.args.orbit.now.displacement
    c.in_ok-text.text.items c.deref.result.now code
    (c.len-population.ensures ∙ ap size (c.phase.ensures ∙ generation-zero R H))
    (c.in_ok-text.ensures ∙ (λ i. prefix c.len-population.result (c.period-period.ensures.value i) (c.displacement.ensures i) ++ codes "_"))
    (c.deref.ensures.value ∙ c.in_ok-body.ensures) (kept ∙ c.deref-2.ensures.value ∙ c.in_ok-extend_from_slice.ensures.items)) c.of.ensures.copied
