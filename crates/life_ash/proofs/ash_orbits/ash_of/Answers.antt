use Rattle.std.proofs.Common.{IfNone, IfOk, IfSome, List, subst}
use Rattle.std.specs.List.{All}
use Rattle.life_model.specs.Generation.{Generation}
use Rattle.life_objects.specs.Ash.{IsAsh}
use Rattle.life_apart.specs.Sets.{IsCourseBy, sets_of}
use Rattle.life_ash.proofs.ash_orbits.ash_of.Goals as goal

pub returns-clause-some : goal.returns-clause-some
returns-clause-some g c =
    let G = g.P.Plane.members c.args.plane.now in
    subst (λ n. IfOk c.ash_by.result (λ found. IfSome found (λ ash. IsAsh c.args.rule.now n G (sets_of ash)))) c.new-known.ensures.bound
    (subst (λ S. IfOk c.ash_by.result (λ found. IfSome found (λ ash. IsAsh S c.new-known.result.bound G (sets_of ash)))) c.new-known.ensures.rule
    c.ash_by.ensures.some)

pub returns-clause-rule : goal.returns-clause-rule
returns-clause-rule g c =
    subst (λ S. IfOk c.ash_by.result (λ found. IfSome found (All (IsCourseBy S)))) c.new-known.ensures.rule c.ash_by.ensures.rule

pub returns-clause-none : goal.returns-clause-none
returns-clause-none g c =
    let G = g.P.Plane.members c.args.plane.now in
    subst (λ n. IfOk c.ash_by.result (λ found. IfNone found ((parts : List Generation) → IsAsh c.args.rule.now n G parts → ⊥))) c.new-known.ensures.bound
    (subst (λ S. IfOk c.ash_by.result (λ found. IfNone found ((parts : List Generation) → IsAsh S c.new-known.result.bound G parts → ⊥))) c.new-known.ensures.rule
    c.ash_by.ensures.none)
