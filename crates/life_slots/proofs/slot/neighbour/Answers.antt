use Rattle.std.proofs.Common.{◌≡◌, pos, ◌+ℤ◌, ◌-ℤ◌, ◌%◌, ◌/◌, w32, to_z, of_z, arith}
use Rattle.std.proofs.lemmas.Int.{ints}
use Rattle.life_slots.proofs.slot.neighbour.Goals as goal

pub returns : goal.returns
returns c =
    let inside = c.requires.inside in
    let small = c.requires.direction in
    let across : to_z w32 (of_z w32 (to_z w32 (of_z w32 (to_z w32 (of_z w32 c.args.place.0) +ℤ to_z w32 (c.args.direction % 3))) -ℤ pos 1)) ≡ ((c.args.place.0 +ℤ pos (c.args.direction % 3)) -ℤ pos 1) =
    omega (arith, ints, inside.west, inside.east) in
    let down : to_z w32 (of_z w32 (to_z w32 (of_z w32 (to_z w32 (of_z w32 c.args.place.1) +ℤ to_z w32 (c.args.direction / 3))) -ℤ pos 1)) ≡ ((c.args.place.1 +ℤ pos (c.args.direction / 3)) -ℤ pos 1) =
    omega (arith, ints, inside.north, inside.south) in
    λ i. (across i, down i)
