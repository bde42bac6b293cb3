use Rattle.std.proofs.Common.{◌∙◌}
use Rattle.std.proofs.lemmas.Result.{IfOk-weaker}
use Rattle.life_answer.proofs.Sizes.{size_by_shape}
use Rattle.life_codes.proofs.Phases.{code-parts}
use Rattle.life_find.proofs.apgcode.code_from.Goals as goal

pub returns : goal.returns
returns g c =
    let L = c.args.listed.now in
    let H = g.P.Plane.members c.args.plane.now in
    IfOk-weaker c.of.result _ _ (λ code kept.
    code-parts c.args.rule.now H c.args.recurrence.now.period c.len-population.result c.args.recurrence.now.displacement
    c.in_ok-text.text.items c.text.result.now code (c.len-population.ensures ∙ size_by_shape L H c.requires.same) c.in_ok-text.ensures
    (c.text.ensures ∙ c.in_ok-add_phases.ensures) (kept ∙ c.deref.ensures.value ∙ c.in_ok-extend_from_slice.ensures.items)) c.of.ensures.copied
