use Rattle.std.proofs.Common.{◌≡◌, sym, ap, subst, ◌∙◌, arith}
use Rattle.std.proofs.lemmas.List.Elements.{All-same}
use Rattle.life_model.specs.Evolution.{generation}
use Rattle.life_model.proofs.Recurrences.{generation-zero}
use Rattle.life_objects.specs.Ash.{IsAsh}
use Rattle.life_apart.specs.Sets.{IsCourseBy, sets_of}
use Rattle.life_ash.proofs.ash_orbits.ash_before.Goals as goal

pub returns-then-ago-eq0-clause-some : goal.returns-then-ago-eq0-clause-some
returns-then-ago-eq0-clause-some g c =
    let R = c.args.known.now.rule in
    let b = c.args.known.now.bound in
    let G = g.P.Plane.members c.args.plane.now in
    let ago = c.if-ago-eq0.true in
    let none : c.args.ago ≡ 0 = omega arith in
    let here = subst (λ H. IsAsh R b H (sets_of c.args.later.items)) (ap (generation R G) none ∙ generation-zero R G) c.requires.ash.ash in
    subst (λ os. IsAsh R b G (sets_of os)) (sym c.of.ensures) here

pub returns-then-ago-eq0-clause-rule : goal.returns-then-ago-eq0-clause-rule
returns-then-ago-eq0-clause-rule g c =
    let R = c.args.known.now.rule in
    All-same (IsCourseBy R) _ _ c.of.ensures c.requires.ash.rule
