use Rattle.std.proofs.Common.{sym, ap, subst, true≢false, ◌∙◌}
use Rattle.life_model.specs.Evolution.{generation}
use Rattle.life_objects.specs.Onset.{HasAsh}
use Rattle.life_apart.proofs.onsets.pattern.plane_before_ash.Goals as goal

pub returns-clause-none : goal.returns-clause-none
returns-clause-none g c R b G rule since moment ash has =
    let number = sym c.number-number.ensures in
    let here = c.in_ok-plane.ensures.cells ∙ moment ∙ ap (generation R G) number in
    true≢false (sym ((c.in_ok-is_ash_already.ensures R b G rule since here ash).1
    (subst (λ n. HasAsh R b (generation R G n)) (c.in_ok-plane.ensures.age ∙ number) has)) ∙ c.if-branch.false)
