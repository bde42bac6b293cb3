use Rattle.std.proofs.Common.{sym, subst}
use Rattle.std.proofs.lemmas.List.Elements.{All-same, All-weaker}
use Rattle.life_objects.specs.Ash.{IsAsh}
use Rattle.life_apart.specs.Sets.{IsCourseBy, sets_of}
use Rattle.life_ash.specs.Parts.{IsFit}
use Rattle.life_ash.proofs.ash_orbits.ash_if.Goals as goal

pub returns-clause-some : goal.returns-clause-some
returns-clause-some g c =
    let R = c.args.known.now.rule in
    let b = c.args.known.now.bound in
    let G = g.P.Plane.members c.args.plane.now in
    let found = subst (λ n. IsAsh R n G (sets_of c.as_slice.result.now)) c.bound-bound.ensures.value
    (subst (λ S. IsAsh S c.bound-bound.result G (sets_of c.as_slice.result.now)) c.rule-rule.ensures
    (c.in_ok-is_ash.ensures.0 c.if-not-branch.false)) in
    subst (λ os. IsAsh R b G (sets_of os)) (sym c.of.ensures)
    (subst (λ os. IsAsh R b G (sets_of os)) c.as_slice.ensures.value found)

pub returns-clause-rule : goal.returns-clause-rule
returns-clause-rule g c =
    let R = c.args.known.now.rule in
    All-same (IsCourseBy R) _ _ c.of.ensures
    (All-weaker (IsFit R c.args.known.now.bound) (IsCourseBy R) (λ o fit. fit.rule) c.args.parts.items
    c.requires)
