use Rattle.std.proofs.Common.{◌≡◌, ◌≤◌, ◌+◌, sym, ap, subst, ◌∙◌, arith}
use Rattle.life_model.specs.Box.{width, height}
use Rattle.life_model.specs.Evolution.{generation}
use Rattle.life_model.specs.Symmetry.{normal}
use Rattle.life_model.proofs.Recurrences.{generation-zero}
use Rattle.life_cells.specs.Limits.{extent_limit, place_limit}
use Rattle.life_cells.proofs.Boxes.{width_at_age, height_at_age}
use Rattle.life_find.proofs.apgcode.code_of.Goals as goal

pub code_from-requires-clause-wide : goal.code_from-requires-clause-wide
code_from-requires-clause-wide g c =
    let G = c.args.cells.now in
    let wide : width G ≤ place_limit + (0 + 0) = width_at_age G 0 c.requires.fits in
    (let small : width G ≤ extent_limit = omega arith in small)

pub code_from-requires-clause-high : goal.code_from-requires-clause-high
code_from-requires-clause-high g c =
    let G = c.args.cells.now in
    let high : height G ≤ place_limit + (0 + 0) = height_at_age G 0 c.requires.fits in
    (let small : height G ≤ extent_limit = omega arith in small)

pub code_from-requires-clause-same : goal.code_from-requires-clause-same
code_from-requires-clause-same g c =
    let R = c.args.rule.now in
    let G = c.args.cells.now in
    let first = c.if-recurrence-eq0.true in
    let zero : 0 ≡ c.args.recurrence.now.onset = omega arith in
    ap normal (sym (generation-zero R G) ∙ ap (generation R G) zero) ∙ sym c.requires.shape

pub code_from-requires-2-clause-wide : goal.code_from-requires-2-clause-wide
code_from-requires-2-clause-wide g c =
    let G = g.P.Plane.members c.args.plane.now in
    let n = g.P.Plane.steps_made c.args.plane.now in
    let young = c.requires.young in
    let wide : width G ≤ place_limit + (n + n) = width_at_age G n c.age.ensures.within in
    subst (λ H. width H ≤ extent_limit) (sym c.in_ok-listed.ensures.cells) (let small : width G ≤ extent_limit = omega arith in small)

pub code_from-requires-2-clause-high : goal.code_from-requires-2-clause-high
code_from-requires-2-clause-high g c =
    let G = g.P.Plane.members c.args.plane.now in
    let n = g.P.Plane.steps_made c.args.plane.now in
    let young = c.requires.young in
    let high : height G ≤ place_limit + (n + n) = height_at_age G n c.age.ensures.within in
    subst (λ H. height H ≤ extent_limit) (sym c.in_ok-listed.ensures.cells) (let small : height G ≤ extent_limit = omega arith in small)

pub code_from-requires-2-clause-same : goal.code_from-requires-2-clause-same
code_from-requires-2-clause-same g c = ap normal c.in_ok-listed.ensures.cells
