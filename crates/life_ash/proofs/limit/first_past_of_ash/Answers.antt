use Rattle.std.proofs.Common.{◌≡◌, ◌≤◌, None, Some, refl, sym, subst, arith}
use Rattle.life_model.specs.Evolution.{generation}
use Rattle.life_model.specs.Generation.{size}
use Rattle.life_answer.specs.Limited.{first_past}
use Rattle.life_answer.proofs.Limits.{none_past}
use Rattle.life_ash.proofs.Totals.{size-ash}
use Rattle.life_ash.proofs.limit.first_past_of_ash.Goals as goal

pub returns-then-are_few : goal.returns-then-are_few
returns-then-are_few g c =
    let R = c.args.rule.now in
    let G = g.P.Plane.members c.args.plane.now in
    let few = c.if-are_few.ensures refl in
    subst (λ limit. None ≡ first_past limit R G c.args.last) (sym c.in-Some.is)
    (sym (none_past R G c.args.last (Some c.in-Some.most) (λ n within.
    let size_then : size (generation R G n) ≤ _ = size-ash R c.requires.ash.0 n G c.args.parts.now c.requires.of c.requires.ash.1 in
    let total = few n in
    omega arith)))
