use Rattle.std.proofs.Common.{◌≤◌, ◌+◌, sym, subst, arith}
use Rattle.std.proofs.lemmas.Result.{IfOk-weaker}
use Rattle.life_model.specs.Box.{width, height}
use Rattle.life_cells.specs.Limits.{extent_limit, place_limit}
use Rattle.life_cells.proofs.Boxes.{width_at_age, height_at_age}
use Rattle.life_find.proofs.apgcode.list_phase.Goals as goal

pub returns-clause-wide : goal.returns-clause-wide
returns-clause-wide g c =
    let G = g.P.Plane.members c.args.plane.now in
    let n = g.P.Plane.steps_made c.args.plane.now in
    let young = c.requires in
    let wide : width G ≤ place_limit + (n + n) = width_at_age G n c.age.ensures.within in
    IfOk-weaker c.cells_in.result _ _ (λ phase same. subst (λ H. width H ≤ extent_limit) (sym same) (let small : width G ≤ extent_limit = omega arith in small)) c.cells_in.ensures.cells

pub returns-clause-high : goal.returns-clause-high
returns-clause-high g c =
    let G = g.P.Plane.members c.args.plane.now in
    let n = g.P.Plane.steps_made c.args.plane.now in
    let young = c.requires in
    let high : height G ≤ place_limit + (n + n) = height_at_age G n c.age.ensures.within in
    IfOk-weaker c.cells_in.result _ _ (λ phase same. subst (λ H. height H ≤ extent_limit) (sym same) (let small : height G ≤ extent_limit = omega arith in small)) c.cells_in.ensures.cells
