use Rattle.std.proofs.Common.{◌∙◌, ap, arith}
use Rattle.life_model.specs.Generation.{cells}
use Rattle.life_classes.proofs.Later.{tracked_at_first}
use Rattle.life_census.proofs.OneIsland.{one_class}
use Rattle.life_census.proofs.island.is_one_island.Goals as goal

pub returns : goal.returns
returns g c R =
    let G = g.P.Plane.members c.args.plane.now in
    let all = c.in_ok-classes.classes.items in
    one_class R G all
    (tracked_at_first R 0 G c.as_slice.result.now all (c.as_slice.ensures.cells ∙ ap cells c.in_ok-cells.ensures.cells)
    c.in_ok-classes.ensures.tracked)
    (let few = c.if-len-gt1.false in let long = c.len.ensures in omega arith)
