use Rattle.std.proofs.Common.{◌≡◌, ◌*◌, ◌+◌, ◌≤◌, sym, subst, ◌∙◌, ap, arith}
use Rattle.std.proofs.lemmas.Result.{IfOk-weaker}
use Rattle.life_model.specs.Evolution.{generation}
use Rattle.life_objects.specs.Limits.{objects_bound_limit}
use Rattle.life_ash.specs.Ahead.{IsFound}
use Rattle.life_ash.specs.Allowed.{AreAllowedBefore}
use Rattle.life_ash.specs.Counted.{IsPast}
use Rattle.life_ash.proofs.Ways.{found_first, nothing_weaker}
use Rattle.life_ash.proofs.past.found_past.Goals as goal

pub returns-clause-age : goal.returns-clause-age
returns-clause-age g c =
    let bound = c.bound-last.ensures.value in
    IfOk-weaker c.count_on.result _ _ (λ found. nothing_weaker found _ _ (λ h. let e = h in omega arith)) c.count_on.ensures.age

pub returns-clause-small : goal.returns-clause-small
returns-clause-small g c =
    let bound = c.bound-last.ensures.value in
    IfOk-weaker c.count_on.result _ _ (λ found. nothing_weaker found _ _ (λ h. let e = h in omega arith)) c.count_on.ensures.small

pub returns-clause-past : goal.returns-clause-past
returns-clause-past g c =
    let R = c.args.met.now.rule in
    let b = c.args.met.now.bound in
    let bound = c.bound-last.ensures.value in
    let n = c.bound-last.result in
    let end : 3 * n + 1 ≡ 3 * b + 1 = omega arith in
    let first = g.P.Plane.members c.args.plane.now in
    IfOk-weaker c.count_on.result _ _
    (λ found. nothing_weaker found _ _
    (λ h G is. subst (λ k. IsPast R b G k (g.P.Plane.members c.count_on.new.plane) c.count_on.new.totals) end
    (h G (subst (λ k. IsPast R b G k first c.args.totals.now) (sym c.requires.age) is))))
    c.count_on.ensures.past

pub returns-clause-found : goal.returns-clause-found
returns-clause-found g c =
    let R = c.args.met.now.rule in
    let b = c.args.met.now.bound in
    let bound = c.bound-last.ensures.value in
    let short = c.bound-last.ensures.short in
    let most : b ≤ objects_bound_limit = omega arith in
    let n = c.bound-last.result in
    let aged = c.requires.age in
    IfOk-weaker c.count_on.result _ _
    (λ found told G start allowed.
    found_first R b G c.args.limit most found
    (subst (λ k. IsFound R b G c.args.limit b (3 * k + 1) (3 * k) found) bound
    (subst (λ k. IsFound R b G c.args.limit k (3 * n + 1) (3 * n) found) aged
    (told G (start ∙ ap (generation R G) (sym aged)) (subst (AreAllowedBefore R G c.args.limit) (sym aged) allowed)))))
    c.count_on.ensures.found
