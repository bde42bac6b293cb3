-- The two cells are further apart.
use Rattle.std.proofs.Common.{◌≡◌, pos, ◌+ℤ◌, ◌≤ℤ◌, true, arith}
use Rattle.std.proofs.lemmas.Int.{ints, to_z-of_z}
use Rattle.life_model.specs.Generation.{contains}
use Rattle.life_cells.specs.Limits.{IsPlace}
use Rattle.life_advance.specs.Leaps.Planes.{members}
use Rattle.life_advance.proofs.width.growth.is_higher.Goals as goal

pub returns : goal.returns
returns c wider n most span =
    let north : IsPlace c.in-Some.north = rw c.in-Some.is at c.far_cell.ensures.place in
    let south : IsPlace c.in-Some-far_cell.south = rw c.in-Some-far_cell.is at c.far_cell-2.ensures.place in
    let one : contains (members c.args.plane.now) c.in-Some.north ≡ true = rw c.in-Some.is at c.far_cell.ensures.member in
    let other : contains (members c.args.plane.now) c.in-Some-far_cell.south ≡ true = rw c.in-Some-far_cell.is at c.far_cell-2.ensures.member in
    let near : c.in-Some-far_cell.south.1 ≤ℤ (c.in-Some.north.1 +ℤ pos n) = span c.in-Some.north c.in-Some-far_cell.south one other in
    let north_from = north.above in
    let north_to = north.below in
    let south_from = south.above in
    let south_to = south.below in
    grind (arith, ints, to_z-of_z)
