-- The two cells are further apart.
use Rattle.std.proofs.Common.{◌≡◌, pos, ◌+ℤ◌, ◌≤ℤ◌, true, arith}
use Rattle.std.proofs.lemmas.Int.{ints, to_z-of_z}
use Rattle.life_model.specs.Generation.{contains}
use Rattle.life_cells.specs.Limits.{IsPlace}
use Rattle.life_advance.specs.Leaps.Planes.{members}
use Rattle.life_advance.proofs.width.growth.is_wider.Goals as goal

pub returns : goal.returns
returns c wider n most span =
    let west : IsPlace c.in-Some.west = rw c.in-Some.is at c.far_cell.ensures.place in
    let east : IsPlace c.in-Some-far_cell.east = rw c.in-Some-far_cell.is at c.far_cell-2.ensures.place in
    let one : contains (members c.args.plane.now) c.in-Some.west ≡ true = rw c.in-Some.is at c.far_cell.ensures.member in
    let other : contains (members c.args.plane.now) c.in-Some-far_cell.east ≡ true = rw c.in-Some-far_cell.is at c.far_cell-2.ensures.member in
    let near : c.in-Some-far_cell.east.0 ≤ℤ (c.in-Some.west.0 +ℤ pos n) = span c.in-Some.west c.in-Some-far_cell.east one other in
    let west_from = west.left in
    let west_to = west.right in
    let east_from = east.left in
    let east_to = east.right in
    grind (arith, ints, to_z-of_z)
