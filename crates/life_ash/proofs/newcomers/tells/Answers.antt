use Rattle.std.proofs.Common.{◌≡◌, ◌*◌, not, sym, ap, ◌∙◌, arith, true≢false}
use Rattle.life_model.specs.Generation.{Generation, contains}
use Rattle.life_orbit.specs.Course.{Course}
use Rattle.life_orbit.specs.Kept.{orbit_age_limit}
use Rattle.life_ash.specs.Parts.{IsEnd}
use Rattle.life_ash.proofs.Alone.{seen_within, told_before, told_within}
use Rattle.life_ash.proofs.Finding.{of_none, of_some}
use Rattle.life_ash.proofs.newcomers.tells.Goals as goal

pub part_of-requires-clause-within : goal.part_of-requires-clause-within
part_of-requires-clause-within g c =
    let age = c.requires.age in
    let few = c.bound-bound.ensures.short in
    let same = c.bound-bound.ensures.value in
    told_within c.args.known.now.rule c.rule-rule.result c.args.known.now.bound c.bound-bound.result c.args.now.now
    (g.P.Plane.members c.args.plane.now) c.args.set.now c.in_ok-end.field-0 c.in-Some.end c.rule-rule.ensures
    c.bound-bound.ensures.value c.requires.now c.requires.whole c.in-Some.is c.in_ok-end.ensures
    (g.P.Plane.steps_made c.args.plane.now) orbit_age_limit (omega arith) c.age-age.ensures.within

pub returns-in-Some-2-clause-none : goal.returns-in-Some-2-clause-none
returns-in-Some-2-clause-none g c not_there parts ash =
    let there =
    told_before c.args.known.now.rule c.rule-rule.result c.args.known.now.bound c.bound-bound.result c.args.now.now
    (g.P.Plane.members c.args.plane.now) c.args.set.now c.in_ok-end.field-0 c.in-Some.end c.rule-rule.ensures
    c.bound-bound.ensures.value c.requires.now c.requires.whole c.in-Some.is c.in_ok-end.ensures c.requires.placed
    (λ e. true≢false (sym (c.if-is_empty.ensures.1 e))) parts ash in
    let same : c.in-Some-2.part.set ≡ there.0 =
    of_some (λ (o : Course). (P : Generation) →
    IsEnd c.args.known.now.rule c.args.known.now.bound (2 * c.bound-bound.result) c.in-Some.end P → o.set ≡ P) c.in-Some-2.is
    c.in_ok-part.ensures.set there.0 there.2 in
    let within =
    seen_within c.set.result.now c.args.now.now (λ x h. there.1 x (ap (λ S. contains S x) (sym (c.set.ensures ∙ same)) ∙ h)) in
    true≢false (sym not_there ∙ ap not (c.is_within.ensures ∙ within))

pub returns-clause-none : goal.returns-clause-none
returns-clause-none g c told parts ash =
    let there =
    told_before c.args.known.now.rule c.rule-rule.result c.args.known.now.bound c.bound-bound.result c.args.now.now
    (g.P.Plane.members c.args.plane.now) c.args.set.now c.in_ok-end.field-0 c.in-Some.end c.rule-rule.ensures
    c.bound-bound.ensures.value c.requires.now c.requires.whole c.in-Some.is c.in_ok-end.ensures c.requires.placed
    (λ e. true≢false (sym (c.if-is_empty.ensures.1 e))) parts ash in
    of_none c.in-None.is c.in_ok-part.ensures.none there.0 there.2
